-- What a table that is added is in a document.
use Rattle.std.proofs.Common.{◌≡◌, suc, List, [], ◌∷◌, ◌++◌, Bool, true, false, not, Option, Some, None, length, refl, ap, sym, ◌∙◌, nat_eq, nat_le, ◌&&◌, cond}
use Rattle.std.proofs.lemmas.List.{append-nil, append_assoc}
use Rattle.meaning.specs.Tree.{Name}
use Rattle.meaning.specs.Tables.{index_of}
use Rattle.input_tables.specs.Names.{is_name}
use Rattle.input_tables.specs.Shapes.{where_some, passing, item_count, columns_from, columns_in, table_in}
use Rattle.input_tables.specs.Adding.{unless, column_refusal, own_refusal, without_rows, texts, rowless, unless_refused}
use Rattle.input_tables.specs.declared.refusal.AddError.{AddError}
use Rattle.input_tables.specs.declared.refusal.AddError.TheVariants as e

item_count-texts : (cs : List Name) → item_count (texts cs) ≡ length cs
item_count-texts [] = refl
item_count-texts (c ∷ cs) = ap suc (item_count-texts cs)

-- one more column, where the rest is known
one_more : (named new : Bool) (c : Name) (f : Name → Option (List Name)) (rest : Option AddError) (all : List Name) → f c ≡ unless_refused rest all
    → where_some (passing (named && new) c) f ≡ unless_refused (unless (not named) e.ColumnName (unless (not new) e.ColumnTwice rest)) all
one_more true true c f rest all h = h
one_more true false c f rest all h = refl
one_more false true c f rest all h = refl
one_more false false c f rest all h = refl

columns_behind : (cs rest : List Name) → columns_from cs (texts rest) ≡ unless_refused (column_refusal cs rest) (cs ++ rest)
columns_behind cs [] = ap Some (sym (append-nil cs))
columns_behind cs (c ∷ rest) =
    let more = columns_behind (cs ++ c ∷ []) rest ∙ ap (unless_refused (column_refusal (cs ++ c ∷ []) rest)) (append_assoc cs (c ∷ []) rest) in
    one_more (is_name c) (nat_eq (index_of cs c) (length cs)) c (λ d. columns_from (cs ++ d ∷ []) (texts rest)) (column_refusal (cs ++ c ∷ []) rest) (cs ++ c ∷ rest) more

-- where there are as many columns as a table may have
if_many : (many : Bool) (rest : Option AddError) (cs : List Name)
    → cond many (unless_refused rest cs) None ≡ unless_refused (unless (not many) e.ColumnCount rest) cs
if_many true rest cs = refl
if_many false rest cs = refl

columns_of_texts : (cs : List Name)
    → columns_in (texts cs) ≡ unless_refused (unless (not (nat_le 1 (length cs) && nat_le (length cs) 8)) e.ColumnCount (column_refusal [] cs)) cs
columns_of_texts cs =
    rw (item_count-texts cs, columns_behind [] cs) (if_many (nat_le 1 (length cs) && nat_le (length cs) 8) (column_refusal [] cs) cs)

if_named : (named : Bool) (rest : Option AddError) (columns : Option (List Name)) (name : Name) (cs : List Name) → columns ≡ unless_refused rest cs
    → cond named (where_some columns (λ ds. Some (without_rows name ds))) None ≡ unless_refused (unless (not named) e.TableName rest) (without_rows name cs)
if_named true None columns name cs h = rw h refl
if_named true (Some error) columns name cs h = rw h refl
if_named false rest columns name cs h = refl

-- the document's table of this name and these columns is the one that is added, and is faulty exactly where that is refused for its own sake
pub in_document : (name : Name) (cs : List Name) → table_in name (rowless cs) ≡ unless_refused (own_refusal name cs) (without_rows name cs)
in_document name cs =
    if_named (is_name name) (unless (not (nat_le 1 (length cs) && nat_le (length cs) 8)) e.ColumnCount (column_refusal [] cs)) (columns_in (texts cs)) name cs (columns_of_texts cs)
