-- What standard input is made of.
use Rattle.registry.specs.declared.input.Typed.{Typed}

-- the reader behind the notice
abbrev pub typed_reader : {R W : Type 0} → Typed R W → R
typed_reader typed = typed.reader
