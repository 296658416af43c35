-- What is in the grammar of declarations is read.
use Rattle.std.proofs.Common.{◌≡◌, ℕ, zero, suc, ◌+◌, ◌-◌, ◌*◌, ◌<◌, ℤ, Bool, true, false, ltb, List, ◌∷◌, None, Ok, refl, arith}
use Rattle.std.specs.Prelude.{codes}
use Rattle.std.proofs.lemmas.Bool.{lt-ltb}
use Rattle.token_scanner.specs.declared.token.Mark.TheVariants.{CloseParen, CloseBracket, Semicolon, Comma, Reducer}
use Rattle.token_scanner.specs.Words.{Name, Sign, Words, starts, starts_name, line_of}
use Rattle.source_tree.specs.Kinds.{WrittenKind}
use Rattle.source_tree.specs.Source.{Decl, Source}
use Rattle.procedure_parser.specs.KindWords.{simple_kind}
use Rattle.token_readers.specs.Reading.{mark_at, name_at, word_at}
use Rattle.procedure_parser.specs.Reading.{over_as, comma_number_at, more_cells_at, cells_at, table_at, simple_kind_of, sized_kind_at, kind_at, minus_at, signed_at, more_signed_at, signeds_at, initial_at, reducer_at, more_params_at, params_at, procedure_at, procedure_word_at, starts_procedure, declarations_at}
use Rattle.token_readers.specs.Limits.{most_initial, most_number}
use Rattle.procedure_parser.specs.Grammar.{within, CommaNumber, comma_number, MoreCells, no_more_cells, more_cells, Cells, cells, TableForm, table, KindForm, simple, first, last, of_table, Signed, unsigned, minus, MoreSigned, no_more_signed, more_signed, signed_over, Initial, no_initial, initial, ReducerForm, reduces, MoreParams, no_more, one_more, one_over, Params, no_params, params, ProcedureForm, defines, ProcedureWord, unmarked, marked, Declarations, no_declaration, a_reducer, a_procedure, reducer_over, procedure_over}
use Rattle.procedure_parser.proofs.Numbers.{only_within}
use Rattle.procedure_parser.proofs.OnlyStatements.{only_block}

-- ---- kinds

only_comma_number : (n x : ℕ) (ts us : Words) → CommaNumber n x ts us → comma_number_at n ts ≡ Ok (x, us)
unfolding comma_number_at mark_at
only_comma_number n _ _ _ (comma_number x l ts us w) = only_within 0 (n - 1) x ts us w

only_more_cells : (n k : ℕ) (xs : List ℕ) (ts us : Words) → MoreCells n k xs ts us → more_cells_at n k ts ≡ Ok (xs, us)
unfolding more_cells_at
only_more_cells n _ _ _ _ (no_more_cells us) = refl
only_more_cells n _ _ _ _ (more_cells k x xs ts us vs c m) =
    let e = only_comma_number n x ts us c in
    let i = only_more_cells n k xs us vs m in
    rw (e, i) refl

only_cells : (n : ℕ) (xs : List ℕ) (ts us : Words) → Cells n xs ts us → cells_at n ts ≡ Ok (xs, us)
unfolding cells_at mark_at
only_cells n _ _ _ (cells x xs k l ts us vs w m) =
    let e = only_within 0 (n - 1) x ts us w in
    let i = only_more_cells n (n * n - 1) xs us ((Sign CloseBracket, l) ∷ vs) m in
    rw (e, i) refl

only_table : (k : WrittenKind) (ts us : Words) → TableForm k ts us → table_at ts ≡ Ok (k, us)
unfolding table_at word_at
only_table _ _ _ (table n u k xs ts us vs ws w x c) =
    let e = only_within 1 16 n ts ((Name (codes "unit"), k) ∷ us) w in
    let f = only_within 0 (n - 1) u us vs x in
    let i = only_cells n xs vs ws c in
    rw (e, f, i) refl

not_simple_first : simple_kind (codes "first") ≡ None
unfolding simple_kind
not_simple_first = refl

not_simple_last : simple_kind (codes "last") ≡ None
unfolding simple_kind
not_simple_last = refl

not_simple_table : simple_kind (codes "table") ≡ None
unfolding simple_kind
not_simple_table = refl

only_kind : (k : WrittenKind) (ts us : Words) → KindForm k ts us → kind_at ts ≡ Ok (k, us)
unfolding kind_at simple_kind_of sized_kind_at
only_kind _ _ _ (simple x k l us e) = rw e refl
only_kind _ _ _ (first n l ts us w) =
    let s : simple_kind (codes "first") ≡ None = not_simple_first in
    let e = only_within 1 4096 n ts us w in
    rw (s, e) refl
only_kind _ _ _ (last n l ts us w) =
    let s : simple_kind (codes "last") ≡ None = not_simple_last in
    let e = only_within 1 4096 n ts us w in
    rw (s, e) refl
only_kind _ _ _ (of_table k l ts us f) =
    let s : simple_kind (codes "table") ≡ None = not_simple_table in
    let e = only_table k ts us f in
    rw (s, e) refl

-- ---- initial values

only_signed : (x : ℤ) (ts us : Words) → Signed x ts us → signed_at ts ≡ Ok (x, us)
unfolding signed_at minus_at
only_signed _ _ _ (unsigned n _ _ (within _ l us ge le)) = let e = only_within 0 most_number n _ _ (within n l us ge le) in rw e refl
only_signed _ _ _ (minus n l ts us w) = let e = only_within 0 most_number n ts us w in rw e refl

only_more_signed : (n : ℕ) (xs : List ℤ) (ts us : Words) → MoreSigned n xs ts us → starts Comma us ≡ false → more_signed_at n ts ≡ Ok (xs, us)
unfolding more_signed_at over_as
only_more_signed _ _ _ _ (no_more_signed zero us) h = rw h refl
only_more_signed _ _ _ _ (no_more_signed (suc n) us) h = rw h refl
only_more_signed _ _ _ _ (more_signed n l x xs ts us vs s m) h =
    let e = only_signed x ts us s in
    let i = only_more_signed n xs us vs m h in
    rw (e, i) refl
only_more_signed _ _ _ _ (signed_over k l us) h = refl

only_initial : (xs : List ℤ) (ts us : Words) → Initial xs ts us → starts Comma us ≡ false → starts_name (codes "from") us ≡ false → initial_at ts ≡ Ok (xs, us)
unfolding initial_at signeds_at
only_initial _ _ _ (no_initial us) h k = rw k refl
only_initial _ _ _ (initial l x xs ts us vs s m) h k =
    let e = only_signed x ts us s in
    let i = only_more_signed (most_initial - 1) xs us vs m h in
    rw (e, i) refl

only_reducer : (l : ℕ) (d : Decl) (ts us : Words) → ReducerForm l d ts us → reducer_at l ts ≡ Ok (d, us)
unfolding reducer_at name_at mark_at
only_reducer l _ _ _ (reduces x kind xs i j m ts us vs f s) =
    let e = only_kind kind ts us f in
    let g = only_initial xs us ((Sign Semicolon, m) ∷ vs) s refl refl in
    rw (e, g) refl

-- ---- procedures

only_params_behind : (n : ℕ) (xs : List (List ℕ)) (ts us : Words) → MoreParams n xs ts us → starts Comma us ≡ false → more_params_at n ts ≡ Ok (xs, us)
unfolding more_params_at name_at over_as
only_params_behind _ _ _ _ (no_more zero us) h = rw h refl
only_params_behind _ _ _ _ (no_more (suc n) us) h = rw h refl
only_params_behind _ _ _ _ (one_more n k l x xs us vs m) h = let i = only_params_behind n xs us vs m h in rw i refl
only_params_behind _ _ _ _ (one_over k l us) h = refl

pub only_params : (xs : List (List ℕ)) (ts us : Words) → Params xs ts us → params_at ts ≡ Ok (xs, us)
unfolding params_at name_at mark_at
only_params _ _ _ (no_params k l us) = refl
only_params _ _ _ (params x xs k i l ts us m) = let e = only_params_behind 7 xs ts ((Sign CloseParen, l) ∷ us) m refl in rw e refl

only_procedure : (l : ℕ) (m : Bool) (d : Decl) (ts us : Words) → ProcedureForm l m d ts us → procedure_at l m ts ≡ Ok (d, us)
unfolding procedure_at name_at
only_procedure l m _ _ _ (defines f xs ss k ts us vs p b) =
    let e = only_params xs ts us p in
    let i = only_block 32 ss us vs b in
    rw (e, i) refl

pub only_words : (m : Bool) (l : ℕ) (ts us : Words) → ProcedureWord m l ts us → (starts Reducer ts ≡ false) × (starts_procedure ts ≡ true) × (line_of ts ≡ l) × (procedure_word_at ts ≡ Ok (m, us))
unfolding procedure_word_at mark_at
only_words _ _ _ _ (unmarked l us) = (refl, refl, refl, refl)
only_words _ _ _ _ (marked l k us) = (refl, refl, refl, refl)

-- ---- declarations

pub only_declarations : (r p : ℕ) (ds : Source) (ts us : Words) → Declarations r p ds ts us → (k : ℕ) → r + p < k → starts Reducer us ≡ false → starts_procedure us ≡ false → declarations_at k r p ts ≡ Ok (ds, us)
unfolding declarations_at over_as
only_declarations _ _ _ _ _ d zero fuel g h = absurd (omega arith)
only_declarations _ _ _ _ _ (no_declaration r p ts) (suc k) fuel g h = rw (g, h) refl
only_declarations _ _ _ _ _ (a_reducer r p l d ds ts us vs f m) (suc k) fuel g h =
    let lt : ltb 0 (suc r) ≡ true = lt-ltb _ _ (omega arith) in
    let less : suc r - 1 ≡ r = omega arith in
    let e = only_reducer l d ts us f in
    let i = only_declarations r p ds us vs m k (omega arith) g h in
    rw (lt, less, e, i) refl
only_declarations _ _ _ _ _ (a_procedure r p l b d ds ts us vs ws w f m) (suc k) fuel g h =
    let o = only_words b l ts us w in
    let lt : ltb 0 (suc p) ≡ true = lt-ltb _ _ (omega arith) in
    let less : suc p - 1 ≡ p = omega arith in
    let e = only_procedure l b d us vs f in
    let i = only_declarations r p ds vs ws m k (omega arith) g h in
    rw (o.0, o.1, o.2, o.3, lt, less, e, i) refl
only_declarations _ _ _ _ _ (reducer_over p i l us) (suc k) fuel g h = refl
only_declarations _ _ _ _ _ (procedure_over r i l b ts us w) (suc k) fuel g h =
    let o = only_words b i ts _ w in
    rw (o.0, o.1, o.3) refl
