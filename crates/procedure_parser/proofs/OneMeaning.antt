-- A text has one source tree, and so one program; and it defines one program.
use Rattle.std.proofs.Common.{◌≡◌, ℕ, List, [], Result, Ok, sym, ap, ◌∙◌}
use Rattle.meaning.specs.Tree.{Tree}
use Rattle.meaning.specs.TreeView.{Lined}
use Rattle.token_scanner.specs.Words.{Words}
use Rattle.token_scanner.specs.Scanning.{tokens_of}
use Rattle.source_tree.specs.Source.{Source}
use Rattle.source_tree.specs.Lowering.{lowered, lines_of}
use Rattle.source_tree.proofs.LoweredTrees.{lowered_back}
use Rattle.program_edits.specs.Putting.{put_all}
use Rattle.procedure_parser.specs.Correct.{IsSource, IsText, IsDefinition}
use Rattle.procedure_parser.specs.Defined.{IsDefined}
use Rattle.token_readers.specs.Rooms.{room_of}
use Rattle.procedure_parser.proofs.Whole.{only_text, only_definition}

abbrev read_as : Source → Result Source Words
read_as s = Ok s

same_source : (s r : Source) → read_as s ≡ read_as r → s ≡ r
same_source s r e = cc

pub one_source : (text : List ℕ) (s r : Source) → IsSource s text → IsSource r text → s ≡ r
one_source text s r i j = same_source s r (sym (only_text s (tokens_of text) i.1) ∙ only_text r (tokens_of text) j.1)

pub one_tree : (text : List ℕ) (t u : Tree) (l m : List Lined) → IsText text t l → IsText text u m → t ≡ u
one_tree text t u l m (s, i, e, f) (r, j, g, h) = lowered_back t u (e ∙ ap lowered (one_source text s r i j) ∙ sym g)

pub one_list : (text : List ℕ) (t u : Tree) (l m : List Lined) → IsText text t l → IsText text u m → l ≡ m
one_list text t u l m (s, i, e, f) (r, j, g, h) = f ∙ ap lines_of (one_source text s r i j) ∙ sym h

pub one_definition : (t : Tree) (text : List ℕ) (s r : Source) → IsDefinition t s text → IsDefinition t r text → s ≡ r
one_definition t text s r i j = same_source s r (sym (only_definition (room_of t) s (tokens_of text) i.1) ∙ only_definition (room_of t) r (tokens_of text) j.1)

pub one_defined : (text : List ℕ) (before after other : Tree × List Lined) → IsDefined before text after → IsDefined before text other → after ≡ other
one_defined text before after other (s, i, e) (r, j, f) =
    let q = one_definition before.0 text s r i j in
    e ∙ ap (λ (z : Source). put_all [] z before) q ∙ sym f
