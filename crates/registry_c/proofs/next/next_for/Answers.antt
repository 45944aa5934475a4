-- The text is that of the next day, in the version of the day text.
use Rattle.std.proofs.Common.{◌≡◌, ◌∙◌, ◌<◌, Option, ap, sym, arith}
use Rattle.std.specs.Option.{unwrap_or}
use Rattle.std.proofs.lemmas.Grind.{common_steps}
use Rattle.reg_book.specs.Chains.{book_after}
use Rattle.reg_text.specs.Inputs.{day_of_input}
use Rattle.reg_text.specs.NextText.{front_text}
use Rattle.reg_text.specs.declared.reading.scope.Version.{Version}
use Rattle.reg_text.specs.declared.reading.scope.Version.TheVariants.{Two}
use Rattle.registry_c.proofs.next.next_for.Goals as goal

pub returns : goal.returns
returns c =
    let day = day_of_input c.in_ok-input.input in
    let reading = c.in_ok-input.ensures.reads in
    let told = c.in_ok-read_version.ensures.spelled day reading in
    let later : day.batch.day < c.in-Ok.next = grind (arith, common_steps, c.if-le.ensures, c.day.ensures) in
    let same : c.unwrap_or-version.result ≡ reading.version = c.unwrap_or-version.ensures
    ∙ ap (λ (version : Option Version). unwrap_or version Two) told in (
      day,
      reading,
      c.in-Ok.next,
      sym c.in-Ok.ensures,
      later,
      c.in_ok-make_next.ensures
          ∙ ap (λ (version : Version). front_text version day.rules (book_after day) c.in-Ok.next) same,
    )
