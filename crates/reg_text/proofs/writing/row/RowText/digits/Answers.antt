use Rattle.std.proofs.Common.{◌≡◌, ◌≤◌, length, drop, ap, arith, rules, length-drop, length-append}
use Rattle.std.proofs.lemmas.Fmt.{length-decimal-le}
use Rattle.std.specs.Fmt.{decimal}
use Rattle.reg_text.proofs.writing.row.RowText.digits.Goals as goal

pub write_digits-self-inside-requires : goal.write_digits-self-inside-requires
write_digits-self-inside-requires c =
    let short : length (decimal c.args.n) ≤ 20 = search (rules, length-decimal-le 20) in
    let size : length (drop c.self.inside.first c.self.inside.bytes) ≡ length c.args.self.now =
    ap length c.self.view_is in (
      omega (arith, short, size, length-drop c.self.inside.first c.self.inside.bytes, c.self.told, c.requires),
      omega (arith, c.self.told, c.self.invariant),
    )

pub returns-clause-short : goal.returns-clause-short
returns-clause-short c =
    let short : length (decimal c.args.n) ≤ 20 = search (rules, length-decimal-le 20) in
    let size : length (drop c.self.inside.first c.self.inside.bytes) ≡ length c.args.self.now =
    ap length c.self.view_is in
    let whole = ap length c.write_digits-self-inside.ensures.written in
    omega (arith, short, size, whole, length-append (decimal c.args.n) (drop c.self.inside.first c.self.inside.bytes))
