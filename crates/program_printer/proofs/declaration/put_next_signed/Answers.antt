use Rattle.std.proofs.Common.{◌∷◌, OnOk, string_bytes}
use Rattle.std.specs.Prelude.{FitsSigned}
use Rattle.std.specs.Int.{w64}
use Rattle.std.proofs.lemmas.Int.{to_z-of_z}
use Rattle.token_scanner.specs.declared.token.Mark.TheVariants as mark
use Rattle.token_scanner.specs.Words.{Sign}
use Rattle.token_spelling.specs.Spelling.{Puts}
use Rattle.program_printer.specs.Printing.{signed_words}
use Rattle.program_printer.proofs.Parts.{behind}
use Rattle.program_printer.proofs.declaration.put_next_signed.Goals as goal

pub returns : goal.returns
returns c =
    let fits : FitsSigned w64 c.args.number = c.ranges.number in
    let put : OnOk c.put_signed.result (Puts (string_bytes c.put_comma.new.text) (string_bytes c.put_signed.new.text) (signed_words c.args.number)) = simp to_z-of_z at c.put_signed.ensures in
    behind _ _ _ _ (λ us. Sign mark.Comma ∷ us) (signed_words c.args.number) c.in_ok-put_comma.ensures put
