use Rattle.std.proofs.Common.{◌∙◌, sym, arith}
use Rattle.script_reader.proofs.Shown.{text_at, delete_words}
use Rattle.script_reader.proofs.edits.edit.Goals as goal

pub put-requires : goal.put-requires
put-requires c = text_at c.args.words.now 1 _ (omega (arith, c.if-words-lt3.false)) c.requires

pub delete-requires : goal.delete-requires
delete-requires c = text_at c.args.words.now 1 _ (omega (arith, c.if-words-lt3.false)) c.requires

pub returns-then-eq-2 : goal.returns-then-eq-2
returns-then-eq-2 c =
    c.delete.ensures
    ∙ sym (delete_words c.args.words.now _ (omega (arith, c.if-words-lt3.false)) (rw c.as_slice.ensures at (sym c.eq.ensures ∙ c.if-eq.false)) (rw c.as_slice-2.ensures at (sym c.eq-2.ensures ∙ c.if-eq-2.true)))
