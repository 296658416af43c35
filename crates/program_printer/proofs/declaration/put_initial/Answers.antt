use Rattle.std.proofs.Common.{rules, ◌∷◌, pos, string_bytes, slice_index_or}
use Rattle.std.specs.Prelude.{codes, FitsSigned}
use Rattle.std.specs.Int.{w64}
use Rattle.std.proofs.lemmas.Int.{to_z-of_z}
use Rattle.token_scanner.specs.Words as word
use Rattle.token_spelling.specs.Spelling.{Puts}
use Rattle.program_printer.specs.Printing.{signed_words}
use Rattle.program_printer.proofs.Parts.{first_signed_put}
use Rattle.program_printer.proofs.declaration.put_initial.Goals as goal

pub returns-in_ok-put_first_signed-in-len1-up : goal.returns-in_ok-put_first_signed-in-len1-up
returns-in_ok-put_first_signed-in-len1-up c =
    let fits : FitsSigned w64 (slice_index_or c.args.numbers.now 0 (pos 0)) = search rules in
    let first : Puts (string_bytes c.args.text.now) (string_bytes c.put_first_signed.new.text) (λ us. word.Name (codes "from") ∷ signed_words (slice_index_or c.args.numbers.now 0 (pos 0)) us) = simp to_z-of_z at c.in_ok-put_first_signed-in-len1-up.ensures in
    first_signed_put _ c.args.numbers.now _ _ _ c.in-len1-up.len_at_least first c.put_more_signed.ensures
