-- The text of a heading, section by section.
use Rattle.std.proofs.Common.{◌≡◌, ◌∙◌, ℕ, List, [], ◌∷◌, ◌++◌, refl, sym, ap, append_assoc}
use Rattle.std.proofs.lemmas.List.{append-nil}
use Rattle.csv.specs.Writing.{row_text}
use Rattle.reg_text.proofs.Names.{default_writer, TextRow, text_of}
use Rattle.reg_text.proofs.ReadAgain.{text-append}

-- the rows behind the first two
later-rows : (l : TextRow) (ps cs ss ads ws : List TextRow)
    → text_of (ps ++ (cs ++ (l ∷ (ss ++ (ads ++ (ws ++ []))))))
    ≡ text_of ps ++ (text_of cs ++ (row_text default_writer l ++ (text_of ss ++ (text_of ads ++ text_of ws))))
later-rows l ps cs ss ads ws =
    text-append ps (cs ++ (l ∷ (ss ++ (ads ++ (ws ++ [])))))
    ∙ ap (λ (t : List ℕ). text_of ps ++ t)
    (text-append cs (l ∷ (ss ++ (ads ++ (ws ++ []))))
    ∙ ap (λ (t : List ℕ). text_of cs ++ (row_text default_writer l ++ t))
    (text-append ss (ads ++ (ws ++ []))
    ∙ ap (λ (t : List ℕ). text_of ss ++ t)
    (text-append ads (ws ++ []) ∙ ap (λ (rows : List TextRow). text_of ads ++ text_of rows) (append-nil ws))))

-- all sections of a heading, one appended behind another
pub heading-whole : (old a b c d e f g h : List ℕ) (v n l : TextRow) (ps cs ss ads ws : List TextRow)
    → a ≡ old ++ row_text default_writer v → b ≡ a ++ row_text default_writer n → c ≡ b ++ text_of ps
    → d ≡ c ++ text_of cs → e ≡ d ++ row_text default_writer l → f ≡ e ++ text_of ss → g ≡ f ++ text_of ads
    → h ≡ g ++ text_of ws
    → h ≡ old ++ text_of (v ∷ (n ∷ (ps ++ (cs ++ (l ∷ (ss ++ (ads ++ (ws ++ []))))))))
heading-whole old a b c d e f g h v n l ps cs ss ads ws ea eb ec ed ee ef eg eh =
    rw (eh, eg, ef, ee, ed, ec, eb, ea)
    (whole old (row_text default_writer v) (row_text default_writer n) (row_text default_writer l) (text_of ps)
    (text_of cs) (text_of ss) (text_of ads) (text_of ws)
    ∙ ap (λ (t : List ℕ). old ++ (row_text default_writer v ++ (row_text default_writer n ++ t)))
    (sym (later-rows l ps cs ss ads ws)))
  where
    whole : (o x y z p q r s t : List ℕ)
        → o ++ x ++ y ++ p ++ q ++ z ++ r ++ s ++ t ≡ o ++ (x ++ (y ++ (p ++ (q ++ (z ++ (r ++ (s ++ t)))))))
    whole o x y z p q r s t = simp append_assoc refl
