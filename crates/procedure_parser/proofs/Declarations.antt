-- What readers of declarations do.
use Rattle.std.proofs.Common.{◌≡◌, ℕ, zero, suc, ◌+◌, ◌-◌, ◌*◌, ◌<◌, ℤ, pos, Bool, true, false, cond, ltb, List, [], ◌∷◌, Option, Some, None, Ok, Err, refl, sym, ap, subst, ◌∙◌, arith, inl, inr}
use Rattle.std.specs.Prelude.{codes, ◌||◌, neg_ℤ}
use Rattle.std.proofs.lemmas.Slice.Eq.{bytes_eq-Decides}
use Rattle.std.proofs.lemmas.Bool.{ltb-true, ltb-false}
use Rattle.token_scanner.specs.declared.token.Mark.TheVariants.{OpenParen, CloseParen, OpenBracket, CloseBracket, Colon, Semicolon, Comma, Minus, Reducer, Memo, Proc}
use Rattle.token_scanner.specs.Words.{Name, Number, Sign, Bad, Over, Words, for_some, starts, starts_name, rest, front_name, line_of}
use Rattle.source_tree.specs.Kinds.{WrittenKind}
use Rattle.source_tree.specs.Kinds as kinds
use Rattle.source_tree.specs.Source.{Stmt, Decl, Reduces, Defines, Source}
use Rattle.procedure_parser.specs.KindWords.{simple_kind}
use Rattle.token_readers.specs.Reading.{◌>>=◌, Read, mark_at, name_at, within_at, word_at}
use Rattle.procedure_parser.specs.Reading.{over_as, with_front, comma_number_at, more_cells_at, cells_at, table_at, simple_kind_of, sized_kind_at, kind_at, minus_at, signed_at, more_signed_at, signeds_at, initial_at, reducer_at, more_params_at, params_at, block_at, procedure_at, procedure_word_at, starts_procedure, and_then, counted, declarations_at}
use Rattle.procedure_parser.specs.Grammar.{Form, Within, within, CommaNumber, comma_number, MoreCells, no_more_cells, more_cells, Cells, cells, TableForm, table, KindForm, simple, first, last, of_table, Block, Signed, unsigned, minus, MoreSigned, no_more_signed, more_signed, signed_over, Initial, no_initial, initial, ReducerForm, reduces, MoreParams, no_more, one_more, one_over, Params, no_params, params, ProcedureForm, defines, ProcedureWord, unmarked, marked, Declarations, no_declaration, a_reducer, a_procedure, reducer_over, procedure_over}
use Rattle.token_readers.specs.Limits.{most_initial, most_number}
use Rattle.procedure_parser.proofs.Law.{LawAt, IsLocal, nothing, one, by_reply, reply_as, heads_run, if_true, if_false, some_there, none_there, gives_at, refuses_at, skip_at, map_at, then_at}
use Rattle.procedure_parser.proofs.Head.{on_bool, on_option, starts_is, name_is, local, starts_local, over_law, expect_at, name_then_at, at_value, line_local, last_mark, behind_mark, behind_line}
use Rattle.procedure_parser.proofs.Numbers.{within_law, within_then_at}
use Rattle.procedure_parser.proofs.Statements.{a_name, empty_block, block_law}

-- ---- cells

comma_number_law : (n : ℕ) (ts : Words) → LawAt (comma_number_at n) (CommaNumber n) ts
unfolding comma_number_at
comma_number_law n ts =
    expect_at Comma (within_at 0 (n - 1)) (CommaNumber n) ts
    (λ v. ((Number (pos 0), 0) ∷ v, 0, λ l. comma_number 0 l ((Number (pos 0), 0) ∷ v) v (within 0 0 v (omega arith) (omega arith))))
    (λ us. map_at (within_at 0 (n - 1)) (Within 0 (n - 1)) _ us (λ x us vs w l. comma_number x l us vs w) (within_law 0 (n - 1) 0 (omega arith) (omega arith) us))

-- so many noughts, a comma in front of each
noughts : (n k : ℕ) (v : Words) → (y : Words) × (xs : List ℕ) × MoreCells n k xs y v
noughts n zero v = (v, [], no_more_cells v)
noughts n (suc k) v =
    let m = noughts n k v in
    ((Sign Comma, 0) ∷ (Number (pos 0), 0) ∷ m.0, 0 ∷ m.1, more_cells k 0 m.1 _ m.0 v (comma_number 0 0 ((Number (pos 0), 0) ∷ m.0) m.0 (within 0 0 m.0 (omega arith) (omega arith))) m.2)

more_cells_law : (n k : ℕ) (ts : Words) → LawAt (more_cells_at n k) (MoreCells n k) ts
unfolding more_cells_at
more_cells_law n zero ts = gives_at (MoreCells n zero) [] ts (λ v. no_more_cells v)
more_cells_law n (suc k) ts =
    then_at (comma_number_at n) (λ x w. more_cells_at n k w >>= λ xs. Ok (x ∷ xs.0, xs.1)) (CommaNumber n) (MoreCells n (suc k)) ts (comma_number_law n ts)
    (λ v. let m = noughts n k v in (m.0, λ x us c. (x ∷ m.1, more_cells k x m.1 us m.0 v c m.2)))
    (λ x us c. then_at (more_cells_at n k) (λ xs w. Ok (x ∷ xs, w)) (MoreCells n k) _ us (more_cells_law n k us)
    (λ v. (v, λ xs ws q. (x ∷ xs, λ zs p. more_cells k x xs zs ws v p q)))
    (λ xs ws q. gives_at _ (x ∷ xs) ws (λ v ys m zs p. more_cells k x xs zs ys v p m)))

pub cells_law : (n : ℕ) (ts : Words) → LawAt (cells_at n) (Cells n) ts
unfolding cells_at
cells_law n ts =
    let front : ℕ → Words → Read (List ℕ) = λ x w. with_front (x ∷ []) (more_cells_at n (n * n - 1) w) in
    let close : List ℕ → Words → Read (List ℕ) = λ xs w. mark_at CloseBracket w >>= λ vs. Ok (xs, vs) in
    let fill : (v : Words) → (y : Words) × (xs : List ℕ) × MoreCells n (n * n - 1) xs y ((Sign CloseBracket, 0) ∷ v) = λ v. noughts n (n * n - 1) ((Sign CloseBracket, 0) ∷ v) in
    expect_at OpenBracket (λ us. within_at 0 (n - 1) us >>= λ x. front x.0 x.1 >>= λ xs. close xs.0 xs.1) (Cells n) ts
    (λ v. let m = fill v in ((Number (pos 0), 0) ∷ m.0, 0 ∷ m.1, λ k. cells 0 m.1 k 0 ((Number (pos 0), 0) ∷ m.0) m.0 v (within 0 0 m.0 (omega arith) (omega arith)) m.2))
    (λ us. then_at (within_at 0 (n - 1)) (λ x w. front x w >>= λ xs. close xs.0 xs.1) (Within 0 (n - 1)) _ us (within_law 0 (n - 1) 0 (omega arith) (omega arith) us)
    (λ v. let m = fill v in (m.0, λ x us w. (x ∷ m.1, λ k. cells x m.1 k 0 us m.0 v w m.2)))
    (λ x us w.
    let R : Form (List ℕ) = λ b us vs. (xs : List ℕ) × (b ≡ x ∷ xs) × MoreCells n (n * n - 1) xs us vs in
    then_at (front x) close R _ us
    (then_at (more_cells_at n (n * n - 1)) (λ xs w. Ok (x ∷ xs, w)) (MoreCells n (n * n - 1)) R us (more_cells_law n (n * n - 1) us)
    (λ v. (v, λ xs ws q. (x ∷ xs, (xs, refl, q))))
    (λ xs ws q. gives_at _ (x ∷ xs) ws (λ v ys p. (xs, refl, p))))
    (λ v. ((Sign CloseBracket, 0) ∷ v, λ b us q. (b, λ zs w k. subst (λ (b : List ℕ). Cells n b ((Sign OpenBracket, k) ∷ zs) v) (sym q.1) (cells x q.0 k 0 zs us v w q.2))))
    (λ b ws q. last_mark CloseBracket b _ ws (λ m v ys r zs w k. subst (λ (b : List ℕ). Cells n b ((Sign OpenBracket, k) ∷ zs) v) (sym r.1) (cells x r.0 k m zs ys v w r.2)))))

-- ---- kinds

name_there : (x : List ℕ) (ts : Words) → starts_name x ts ≡ true → (l : ℕ) × (us : Words) × (ts ≡ (Name x, l) ∷ us)
name_there x [] h = absurd cc
name_there x ((Name y, l) ∷ us) h = (l, us, ap (λ (k : List ℕ). (Name k, l) ∷ us) ((bytes_eq-Decides y x).0 h))
name_there x ((Sign n, l) ∷ us) h = absurd cc
name_there x ((Number n, l) ∷ us) h = absurd cc
name_there x ((Bad, l) ∷ us) h = absurd cc
name_there x ((Over, l) ∷ us) h = absurd cc

starts_name_local : (x : List ℕ) → IsLocal (starts_name x)
starts_name_local x = local (starts_name x) (λ w us vs. refl)

-- behind a word that is there
behind_word : {A : Type 0} (x : List ℕ) (P : Words → Read A) (T : Form A) (ts : Words) → starts_name x ts ≡ true → ((l : ℕ) (us : Words) → LawAt P (λ a vs ws. T a ((Name x, l) ∷ vs) ws) us) → LawAt (λ w. P (rest w)) T ts
behind_word x P T ts h law =
    let s = name_there x ts h in
    subst (λ (w : Words). LawAt (λ w. P (rest w)) T w) (sym s.2)
    (skip_at P (λ a vs ws. T a ((Name x, s.0) ∷ vs) ws) T (Name x, s.0) s.1 (λ a us vs p. p) (law s.0 s.1))

-- a word that has to come
module _ {A : Type 0} (x : List ℕ) (K : Words → Read A) (T : Form A) where
  abbrev expects : Words → Read A
  expects w = word_at x w >>= K

  word_on : (w : Words) → starts_name x w ≡ true → expects w ≡ K (rest w)
  unfolding word_at
  word_on w h = ap (λ (b : Bool). cond b (Ok (rest w)) (Err w) >>= K) h

  word_not : (w : Words) → starts_name x w ≡ false → expects w ≡ Err w
  unfolding word_at
  word_not w h = ap (λ (b : Bool). cond b (Ok (rest w)) (Err w) >>= K) h

  word_law : (ts : Words) → ((v : Words) → (y : Words) × (a : A) × ((l : ℕ) → T a ((Name x, l) ∷ y) v)) → ((us : Words) → LawAt K (λ a us vs. (l : ℕ) → T a ((Name x, l) ∷ us) vs) us) → LawAt expects T ts
  word_law ts fill law =
      elim (on_bool (starts_name x ts)) [
        | inl h ↦
            by_reply expects T ts (K (rest ts)) (word_on ts h)
            (reply_as (λ w. K (rest w)) expects T T ts (K (rest ts)) (λ f us v is k. word_on (f.run v) (sym (starts_name_local x (f.run us) (f.run v) (heads_run f us v k)) ∙ ap (starts_name x) (sym is) ∙ h)) (λ a us vs r. r)
            (behind_word x K T ts h (λ l us. map_at K (λ a us vs. (l : ℕ) → T a ((Name x, l) ∷ us) vs) _ us (λ a us vs r. r l) (law us))))
        | inr h ↦ by_reply expects T ts (Err ts) (word_not ts h) (record {
          front = nothing;
          is = refl;
          goes = λ v. let f = fill v in ((Name x, 0) ∷ f.0, f.1, f.2 0);
          same = λ v k. word_not v (sym (starts_name_local x ts v k) ∙ h);
        })
      ]

-- a table of one element
one_cell : (n : ℕ) (v : Words) → (y : Words) × (xs : List ℕ) × Cells n xs y v
one_cell n v =
    let m = noughts n (n * n - 1) ((Sign CloseBracket, 0) ∷ v) in
    ((Sign OpenBracket, 0) ∷ (Number (pos 0), 0) ∷ m.0, 0 ∷ m.1, cells 0 m.1 0 0 ((Number (pos 0), 0) ∷ m.0) m.0 v (within 0 0 m.0 (omega arith) (omega arith)) m.2)

table_law : (ts : Words) → LawAt table_at TableForm ts
unfolding table_at
table_law ts =
    let made : ℕ → ℕ → Words → Read WrittenKind = λ n u w. cells_at n w >>= λ xs. Ok (kinds.Table n u xs.0, xs.1) in
    let behind : ℕ → Words → Read WrittenKind = λ n us. within_at 0 (n - 1) us >>= λ u. made n u.0 u.1 in
    within_then_at 1 16 1 (omega arith) (omega arith) (λ n w. word_at (codes "unit") w >>= λ us. behind n us) TableForm ts
    (λ v. let c = one_cell 1 v in ((Name (codes "unit"), 0) ∷ (Number (pos 0), 0) ∷ c.0, kinds.Table 1 0 c.1, λ l. table 1 0 0 c.1 ((Number (pos 1), l) ∷ (Name (codes "unit"), 0) ∷ (Number (pos 0), 0) ∷ c.0) ((Number (pos 0), 0) ∷ c.0) c.0 v (within 1 l _ (omega arith) (omega arith)) (within 0 0 c.0 (omega arith) (omega arith)) c.2))
    (λ n us ge le. word_law (codes "unit") (behind n) _ us
    (λ v. let c = one_cell n v in ((Number (pos 0), 0) ∷ c.0, kinds.Table n 0 c.1, λ k l. table n 0 k c.1 ((Number (pos n), l) ∷ (Name (codes "unit"), k) ∷ (Number (pos 0), 0) ∷ c.0) ((Number (pos 0), 0) ∷ c.0) c.0 v (within n l _ ge le) (within 0 0 c.0 (omega arith) (omega arith)) c.2))
    (λ us. then_at (within_at 0 (n - 1)) (made n) (Within 0 (n - 1)) _ us (within_law 0 (n - 1) 0 (omega arith) (omega arith) us)
    (λ v. let c = one_cell n v in (c.0, λ u us x. (kinds.Table n u c.1, λ k l. table n u k c.1 ((Number (pos n), l) ∷ (Name (codes "unit"), k) ∷ us) us c.0 v (within n l _ ge le) x c.2)))
    (λ u us x. then_at (cells_at n) (λ xs w. Ok (kinds.Table n u xs, w)) (Cells n) _ us (cells_law n us)
    (λ v. (v, λ xs us c. (kinds.Table n u xs, λ zs x k l. table n u k xs ((Number (pos n), l) ∷ (Name (codes "unit"), k) ∷ zs) zs us v (within n l _ ge le) x c)))
    (λ xs us c. gives_at _ (kinds.Table n u xs) us (λ v ys c zs x k l. table n u k xs ((Number (pos n), l) ∷ (Name (codes "unit"), k) ∷ zs) zs ys v (within n l _ ge le) x c)))))

simple_local : IsLocal simple_kind_of
unfolding simple_kind_of
simple_local = local simple_kind_of (λ w us vs. refl)

simple_is : (ts : Words) (k : WrittenKind) → simple_kind_of ts ≡ Some k → (x : List ℕ) × (l : ℕ) × (us : Words) × (ts ≡ (Name x, l) ∷ us) × (simple_kind x ≡ Some k)
unfolding simple_kind_of
simple_is ts k e =
    elim (on_option (front_name ts)) [
      | inl n ↦ let g : None ≡ Some k = sym (ap (λ (o : Option (List ℕ)). for_some o None simple_kind) n) ∙ e in absurd (cc)
      | inr (x, h) ↦ let s = name_is ts x h in (x, s.0, s.1, s.2, sym (ap (λ (o : Option (List ℕ)). for_some o None simple_kind) h) ∙ e)
    ]

a_first : (v : Words) → KindForm (kinds.First 1) ((Name (codes "first"), 0) ∷ (Number (pos 1), 0) ∷ v) v
a_first v = first 1 0 ((Number (pos 1), 0) ∷ v) v (within 1 0 v (omega arith) (omega arith))

sized_kind_law : (ts : Words) → LawAt sized_kind_at KindForm ts
unfolding sized_kind_at
sized_kind_law ts =
    let T : Form WrittenKind = KindForm in
    let firsts : Words → Read WrittenKind = λ w. within_at 1 4096 w >>= λ n. Ok (kinds.First n.0, n.1) in
    let lasts : Words → Read WrittenKind = λ w. within_at 1 4096 w >>= λ n. Ok (kinds.Last n.0, n.1) in
    let tables : Words → Read WrittenKind = λ w. cond (starts_name (codes "table") w) (table_at (rest w)) (Err w) in
    let others : Words → Read WrittenKind = λ w. cond (starts_name (codes "last") w) (lasts (rest w)) (tables w) in
    elim (on_bool (starts_name (codes "first") ts)) [
      | inl h ↦ if_true T (starts_name (codes "first")) (λ w. firsts (rest w)) others ts (starts_name_local (codes "first")) h
          (behind_word (codes "first") firsts T ts h (λ l us. then_at (within_at 1 4096) (λ n w. Ok (kinds.First n, w)) (Within 1 4096) _ us (within_law 1 4096 1 (omega arith) (omega arith) us)
          (λ v. (v, λ n us w. (kinds.First n, first n l us v w)))
          (λ n us w. gives_at _ (kinds.First n) us (λ v ys w. first n l ys v w))))
      | inr h ↦ if_false T (starts_name (codes "first")) (λ w. firsts (rest w)) others ts (starts_name_local (codes "first")) h (elim (on_bool (starts_name (codes "last") ts)) [
        | inl h ↦ if_true T (starts_name (codes "last")) (λ w. lasts (rest w)) tables ts (starts_name_local (codes "last")) h
            (behind_word (codes "last") lasts T ts h (λ l us. then_at (within_at 1 4096) (λ n w. Ok (kinds.Last n, w)) (Within 1 4096) _ us (within_law 1 4096 1 (omega arith) (omega arith) us)
            (λ v. (v, λ n us w. (kinds.Last n, last n l us v w)))
            (λ n us w. gives_at _ (kinds.Last n) us (λ v ys w. last n l ys v w))))
        | inr h ↦ if_false T (starts_name (codes "last")) (λ w. lasts (rest w)) tables ts (starts_name_local (codes "last")) h (elim (on_bool (starts_name (codes "table") ts)) [
          | inl h ↦ if_true T (starts_name (codes "table")) (λ w. table_at (rest w)) (λ w. Err w) ts (starts_name_local (codes "table")) h
              (behind_word (codes "table") table_at T ts h (λ l us. map_at table_at TableForm _ us (λ k us vs f. of_table k l us vs f) (table_law us)))
          | inr h ↦ if_false T (starts_name (codes "table")) (λ w. table_at (rest w)) (λ w. Err w) ts (starts_name_local (codes "table")) h (refuses_at T ts (λ v. ((Name (codes "first"), 0) ∷ (Number (pos 1), 0) ∷ v, kinds.First 1, a_first v)))
        ])
      ])
    ]

kind_law : (ts : Words) → LawAt kind_at KindForm ts
unfolding kind_at
kind_law ts =
    elim (on_option (simple_kind_of ts)) [
      | inl n ↦ none_there KindForm simple_kind_of sized_kind_at (λ k w. Ok (k, rest w)) ts simple_local n (sized_kind_law ts)
      | inr (k, e) ↦ some_there KindForm simple_kind_of sized_kind_at (λ k w. Ok (k, rest w)) ts k simple_local e
          (let s = simple_is ts k e in subst (λ (w : Words). LawAt (λ w. Ok (k, rest w)) KindForm w) (sym s.3)
          (skip_at (λ w. Ok (k, w)) (λ a us vs. KindForm a ((Name s.0, s.1) ∷ us) vs) KindForm (Name s.0, s.1) s.2 (λ a us vs p. p) (gives_at _ k s.2 (λ v. simple s.0 k s.1 v s.4))))
    ]

-- ---- initial values

minus_law : (l : ℕ) (ts : Words) → LawAt minus_at (λ x us vs. Signed x ((Sign Minus, l) ∷ us) vs) ts
unfolding minus_at
minus_law l ts =
    then_at (within_at 0 most_number) (λ n w. Ok (neg_ℤ (pos n), w)) (Within 0 most_number) (λ x us vs. Signed x ((Sign Minus, l) ∷ us) vs) ts (within_law 0 most_number 0 (omega arith) (omega arith) ts)
    (λ v. (v, λ n us w. (neg_ℤ (pos n), minus n l us v w)))
    (λ n us w. gives_at _ (neg_ℤ (pos n)) us (λ v ys w. minus n l ys v w))

signed_law : (ts : Words) → LawAt signed_at Signed ts
unfolding signed_at
signed_law ts =
    let plain : Words → Read ℤ = λ w. within_at 0 most_number w >>= λ n. Ok (pos n.0, n.1) in
    elim (on_bool (starts Minus ts)) [
      | inl h ↦ if_true Signed (starts Minus) (λ w. minus_at (rest w)) plain ts (starts_local Minus) h (behind_mark Minus minus_at Signed ts h minus_law)
      | inr h ↦ if_false Signed (starts Minus) (λ w. minus_at (rest w)) plain ts (starts_local Minus) h
          (then_at (within_at 0 most_number) (λ n w. Ok (pos n, w)) (Within 0 most_number) Signed ts (within_law 0 most_number 0 (omega arith) (omega arith) ts)
          (λ v. (v, λ n us w. (pos n, unsigned n us v w)))
          (λ n us w. gives_at _ (pos n) us (λ v ys w. unsigned n ys v w)))
    ]

more_signed_law : (n : ℕ) (ts : Words) → LawAt (more_signed_at n) (MoreSigned n) ts
unfolding more_signed_at
more_signed_law zero ts =
    let T : Form (List ℤ) = MoreSigned zero in
    let D : Words → Read (List ℤ) = λ w. Ok ([], w) in
    elim (on_bool (starts Comma ts)) [
      | inr n ↦ if_false T (starts Comma) (λ w. over_as [] (rest w)) D ts (starts_local Comma) n (gives_at T [] ts (λ v. no_more_signed zero v))
      | inl h ↦ if_true T (starts Comma) (λ w. over_as [] (rest w)) D ts (starts_local Comma) h
          (behind_mark Comma (over_as []) T ts h (λ l us. over_law [] (λ a us vs. T a ((Sign Comma, l) ∷ us) vs) us (λ k v. signed_over l k v)))
    ]
more_signed_law (suc n) ts =
    let T : Form (List ℤ) = MoreSigned (suc n) in
    let D : Words → Read (List ℤ) = λ w. Ok ([], w) in
    let K : Words → Read (List ℤ) = λ w. signed_at w >>= λ x. more_signed_at n x.1 >>= λ xs. Ok (x.0 ∷ xs.0, xs.1) in
    elim (on_bool (starts Comma ts)) [
      | inr m ↦ if_false T (starts Comma) (λ w. K (rest w)) D ts (starts_local Comma) m (gives_at T [] ts (λ v. no_more_signed (suc n) v))
      | inl h ↦ if_true T (starts Comma) (λ w. K (rest w)) D ts (starts_local Comma) h
          (behind_mark Comma K T ts h (λ l us.
          then_at signed_at (λ x w. more_signed_at n w >>= λ xs. Ok (x ∷ xs.0, xs.1)) Signed (λ a us vs. T a ((Sign Comma, l) ∷ us) vs) us (signed_law us)
          (λ v. (v, λ x us s. (x ∷ [], more_signed n l x [] us v v s (no_more_signed n v))))
          (λ x us s. then_at (more_signed_at n) (λ xs w. Ok (x ∷ xs, w)) (MoreSigned n) _ us (more_signed_law n us)
          (λ v. (v, λ xs ws q. (x ∷ xs, λ zs p. more_signed n l x xs zs ws v p q)))
          (λ xs ws q. gives_at _ (x ∷ xs) ws (λ v ys m zs p. more_signed n l x xs zs ys v p m)))))
    ]

signeds_law : (l : ℕ) (ts : Words) → LawAt signeds_at (λ xs us vs. Initial xs ((Name (codes "from"), l) ∷ us) vs) ts
unfolding signeds_at
signeds_law l ts =
    let most : ℕ = most_initial - 1 in
    let front : ℤ → Words → Read (List ℤ) = λ x w. with_front (x ∷ []) (more_signed_at most w) in
    then_at signed_at front Signed (λ xs us vs. Initial xs ((Name (codes "from"), l) ∷ us) vs) ts (signed_law ts)
    (λ v. (v, λ x us s. (x ∷ [], initial l x [] us v v s (no_more_signed most v))))
    (λ x us s. then_at (more_signed_at most) (λ xs w. Ok (x ∷ xs, w)) (MoreSigned most) _ us (more_signed_law most us)
    (λ v. (v, λ xs ws q. (x ∷ xs, λ zs p. initial l x xs zs ws v p q)))
    (λ xs ws q. gives_at _ (x ∷ xs) ws (λ v ys m zs p. initial l x xs zs ys v p m)))

initial_law : (ts : Words) → LawAt initial_at Initial ts
unfolding initial_at
initial_law ts =
    let D : Words → Read (List ℤ) = λ w. Ok ([], w) in
    elim (on_bool (starts_name (codes "from") ts)) [
      | inl h ↦ if_true Initial (starts_name (codes "from")) (λ w. signeds_at (rest w)) D ts (starts_name_local (codes "from")) h (behind_word (codes "from") signeds_at Initial ts h signeds_law)
      | inr h ↦ if_false Initial (starts_name (codes "from")) (λ w. signeds_at (rest w)) D ts (starts_name_local (codes "from")) h (gives_at Initial [] ts (λ v. no_initial v))
    ]

reducer_law : (l : ℕ) (ts : Words) → LawAt (reducer_at l) (ReducerForm l) ts
unfolding reducer_at
reducer_law l ts =
    let closed : List ℕ → WrittenKind → Words → Read Decl = λ x k w. initial_at w >>= λ xs. mark_at Semicolon xs.1 >>= λ vs. Ok (Reduces l x k xs.0, vs) in
    let behind : List ℕ → Words → Read Decl = λ x us. kind_at us >>= λ k. closed x k.0 k.1 in
    let end : Words → Words = λ v. (Sign Semicolon, 0) ∷ v in
    let start : Words → Words = λ v. (Name (codes "first"), 0) ∷ (Number (pos 1), 0) ∷ (Sign Semicolon, 0) ∷ v in
    name_then_at (λ x w. mark_at Colon w >>= λ us. behind x us) (ReducerForm l) ts
    (λ v. ((Sign Colon, 0) ∷ start v, Reduces l a_name (kinds.First 1) [], λ i. reduces a_name (kinds.First 1) [] i 0 0 (start v) (end v) v (a_first (end v)) (no_initial (end v))))
    (λ x us. expect_at Colon (behind x) _ us
    (λ v. (start v, Reduces l x (kinds.First 1) [], λ j i. reduces x (kinds.First 1) [] i j 0 (start v) (end v) v (a_first (end v)) (no_initial (end v))))
    (λ us. then_at kind_at (closed x) KindForm _ us (kind_law us)
    (λ v. (end v, λ k us f. (Reduces l x k [], λ j i. reduces x k [] i j 0 us (end v) v f (no_initial (end v)))))
    (λ k us f. then_at initial_at (λ xs w. mark_at Semicolon w >>= λ vs. Ok (Reduces l x k xs, vs)) Initial _ us (initial_law us)
    (λ v. (end v, λ xs us q. (Reduces l x k xs, λ zs f j i. reduces x k xs i j 0 zs us v f q)))
    (λ xs us q. last_mark Semicolon (Reduces l x k xs) _ us (λ m v ys q zs f j i. reduces x k xs i j m zs ys v f q)))))

-- ---- parameters

more_params_law : (n : ℕ) (ts : Words) → LawAt (more_params_at n) (MoreParams n) ts
unfolding more_params_at
more_params_law zero ts =
    let T : Form (List (List ℕ)) = MoreParams zero in
    let D : Words → Read (List (List ℕ)) = λ w. Ok ([], w) in
    elim (on_bool (starts Comma ts)) [
      | inr n ↦ if_false T (starts Comma) (λ w. over_as [] (rest w)) D ts (starts_local Comma) n (gives_at T [] ts (λ v. no_more zero v))
      | inl h ↦ if_true T (starts Comma) (λ w. over_as [] (rest w)) D ts (starts_local Comma) h
          (let s = starts_is Comma ts h in
          let S : Form (List (List ℕ)) = λ a us vs. T a ((Sign Comma, s.0) ∷ us) vs in
          subst (λ (w : Words). LawAt (λ w. over_as [] (rest w)) T w) (sym s.2)
          (skip_at (over_as []) S T (Sign Comma, s.0) s.1 (λ a us vs p. p) (over_law [] S s.1 (λ l v. one_over s.0 l v))))
    ]
more_params_law (suc n) ts =
    let T : Form (List (List ℕ)) = MoreParams (suc n) in
    let D : Words → Read (List (List ℕ)) = λ w. Ok ([], w) in
    let K : Words → Read (List (List ℕ)) = λ w. name_at w >>= λ x. more_params_at n x.1 >>= λ xs. Ok (x.0 ∷ xs.0, xs.1) in
    elim (on_bool (starts Comma ts)) [
      | inr m ↦ if_false T (starts Comma) (λ w. K (rest w)) D ts (starts_local Comma) m (gives_at T [] ts (λ v. no_more (suc n) v))
      | inl h ↦ if_true T (starts Comma) (λ w. K (rest w)) D ts (starts_local Comma) h
          (let s = starts_is Comma ts h in
          let S : Form (List (List ℕ)) = λ a us vs. T a ((Sign Comma, s.0) ∷ us) vs in
          subst (λ (w : Words). LawAt (λ w. K (rest w)) T w) (sym s.2)
          (skip_at K S T (Sign Comma, s.0) s.1 (λ a us vs p. p)
          (name_then_at (λ x w. more_params_at n w >>= λ xs. Ok (x ∷ xs.0, xs.1)) S s.1
          (λ v. (v, a_name ∷ [], λ i. one_more n s.0 i a_name [] v v (no_more n v)))
          (λ x us. then_at (more_params_at n) (λ xs w. Ok (x ∷ xs, w)) (MoreParams n) _ us (more_params_law n us)
          (λ v. (v, λ xs ws q. (x ∷ xs, λ i. one_more n s.0 i x xs ws v q)))
          (λ xs ws q. gives_at _ (x ∷ xs) ws (λ v ys p i. one_more n s.0 i x xs ys v p))))))
    ]

pub params_law : (ts : Words) → LawAt params_at Params ts
unfolding params_at
params_law ts =
    let F : Form (List (List ℕ)) = λ xs us vs. (k : ℕ) → Params xs ((Sign OpenParen, k) ∷ us) vs in
    let front : List ℕ → Words → Read (List (List ℕ)) = λ x w. with_front (x ∷ []) (more_params_at 7 w) in
    let full : Words → Read (List (List ℕ)) = λ w. name_at w >>= λ x. front x.0 x.1 >>= λ xs. mark_at CloseParen xs.1 >>= λ vs. Ok (xs.0, vs) in
    expect_at OpenParen (λ w. cond (starts CloseParen w) (Ok ([], rest w)) (full w)) Params ts (λ x. ((Sign CloseParen, 0) ∷ x, [], λ k. no_params k 0 x))
    (λ us. elim (on_bool (starts CloseParen us)) [
      | inl h ↦ if_true F (starts CloseParen) (λ w. Ok ([], rest w)) full us (starts_local CloseParen) h
          (let s = starts_is CloseParen us h in subst (λ (w : Words). LawAt (λ w. Ok ([], rest w)) F w) (sym s.2)
          (skip_at (λ w. Ok ([], w)) (λ xs us vs. F xs ((Sign CloseParen, s.0) ∷ us) vs) F (Sign CloseParen, s.0) s.1 (λ a us vs p. p) (gives_at _ [] s.1 (λ v k. no_params k s.0 v))))
      | inr h ↦ if_false F (starts CloseParen) (λ w. Ok ([], rest w)) full us (starts_local CloseParen) h
          (name_then_at (λ x w. front x w >>= λ xs. mark_at CloseParen xs.1 >>= λ vs. Ok (xs.0, vs)) F us
          (λ v. ((Sign CloseParen, 0) ∷ v, a_name ∷ [], λ i k. params a_name [] k i 0 ((Sign CloseParen, 0) ∷ v) v (no_more 7 ((Sign CloseParen, 0) ∷ v))))
          (λ x us.
          let R : Form (List (List ℕ)) = λ b us vs. (xs : List (List ℕ)) × (b ≡ x ∷ xs) × MoreParams 7 xs us vs in
          then_at (front x) (λ xs w. mark_at CloseParen w >>= λ vs. Ok (xs, vs)) R _ us
          (then_at (more_params_at 7) (λ xs w. Ok (x ∷ xs, w)) (MoreParams 7) R us (more_params_law 7 us)
          (λ v. (v, λ xs ws q. (x ∷ xs, (xs, refl, q))))
          (λ xs ws q. gives_at _ (x ∷ xs) ws (λ v ys p. (xs, refl, p))))
          (λ v. ((Sign CloseParen, 0) ∷ v, λ b us q. (b, λ i k. subst (λ (b : List (List ℕ)). Params b ((Sign OpenParen, k) ∷ (Name x, i) ∷ us) v) (sym q.1) (params x q.0 k i 0 us v q.2))))
          (λ b ws q. last_mark CloseParen b _ ws (λ m v zs r i k. subst (λ (b : List (List ℕ)). Params b ((Sign OpenParen, k) ∷ (Name x, i) ∷ zs) v) (sym r.1) (params x r.0 k i m zs v r.2)))))
    ])

-- ---- procedures

procedure_law : (l : ℕ) (m : Bool) (ts : Words) → LawAt (procedure_at l m) (ProcedureForm l m) ts
unfolding procedure_at
procedure_law l m ts =
    let empty : (v : Words) → (y : Words) × (b : List Stmt) × Block 32 b y v = λ v. empty_block 32 v in
    name_then_at (λ f w. params_at w >>= λ xs. block_at 32 xs.1 >>= λ ss. Ok (Defines l m f xs.0 ss.0, ss.1)) (ProcedureForm l m) ts
    (λ v. let z = empty v in ((Sign OpenParen, 0) ∷ (Sign CloseParen, 0) ∷ z.0, Defines l m a_name [] z.1, λ k. defines a_name [] z.1 k ((Sign OpenParen, 0) ∷ (Sign CloseParen, 0) ∷ z.0) z.0 v (no_params 0 0 _) z.2))
    (λ f us. then_at params_at (λ xs w. block_at 32 w >>= λ ss. Ok (Defines l m f xs ss.0, ss.1)) Params _ us (params_law us)
    (λ v. let z = empty v in (z.0, λ xs us p. (Defines l m f xs z.1, λ k. defines f xs z.1 k us z.0 v p z.2)))
    (λ xs ws q. then_at (block_at 32) (λ ss w. Ok (Defines l m f xs ss, w)) (Block 32) _ ws (block_law 32 ws)
    (λ v. (v, λ ss us b. (Defines l m f xs ss, λ zs p k. defines f xs ss k zs us v p b)))
    (λ ss us b. gives_at _ (Defines l m f xs ss) us (λ v ys b zs p k. defines f xs ss k zs ys v p b))))

-- a procedure's own tokens, behind the words in front of its name
abbrev small : Words → Words
small v = (Name a_name, 0) ∷ (Sign OpenParen, 0) ∷ (Sign CloseParen, 0) ∷ (empty_block 32 v).0

small_form : (l : ℕ) (m : Bool) (v : Words) → ProcedureForm l m (Defines l m a_name [] (empty_block 32 v).1) (small v) v
small_form l m v = let z = empty_block 32 v in defines a_name [] z.1 0 ((Sign OpenParen, 0) ∷ (Sign CloseParen, 0) ∷ z.0) z.0 v (no_params 0 0 _) z.2

abbrev pub Worded : ℕ → Form Bool
Worded l m us vs = ProcedureWord m l us vs

memo_law : (l : ℕ) (us : Words) → LawAt procedure_word_at (Worded l) ((Sign Memo, l) ∷ us)
unfolding procedure_word_at
memo_law l us =
    let yes : Words → Read Bool = λ w. mark_at Proc w >>= λ us. Ok (true, us) in
    let not : Words → Read Bool = λ w. mark_at Proc w >>= λ us. Ok (false, us) in
    if_true (Worded l) (starts Memo) (λ w. yes (rest w)) not ((Sign Memo, l) ∷ us) (starts_local Memo) refl
    (skip_at yes (λ m us vs. ProcedureWord m l ((Sign Memo, l) ∷ us) vs) (Worded l) (Sign Memo, l) us (λ a us vs p. p) (last_mark Proc true _ us (λ k v. marked l k v)))

proc_law : (l : ℕ) (us : Words) → LawAt procedure_word_at (Worded l) ((Sign Proc, l) ∷ us)
unfolding procedure_word_at mark_at
proc_law l us = by_reply procedure_word_at (Worded l) ((Sign Proc, l) ∷ us) (Ok (false, us)) refl (record { front = one (Sign Proc, l); is = refl; holds = λ v. unmarked l v; again = λ v k. refl })

pub procedure_local : IsLocal starts_procedure
procedure_local = local starts_procedure (λ w us vs. refl)

-- the words in front, on their line
pub words_law : (ts : Words) → starts_procedure ts ≡ true → (l : ℕ) × (line_of ts ≡ l) × LawAt procedure_word_at (Worded l) ts
words_law ts h =
    elim (on_bool (starts Memo ts)) [
      | inl t ↦ let s = starts_is Memo ts t in (s.0, ap line_of s.2, subst (λ (w : Words). LawAt procedure_word_at (Worded s.0) w) (sym s.2) (memo_law s.0 s.1))
      | inr f ↦
          let t : starts Proc ts ≡ true = sym (ap (λ (b : Bool). b || starts Proc ts) f) ∙ h in
          let s = starts_is Proc ts t in
          (s.0, ap line_of s.2, subst (λ (w : Words). LawAt procedure_word_at (Worded s.0) w) (sym s.2) (proc_law s.0 s.1))
    ]

-- ---- declarations

module _ (n : ℕ) (item : Words → Read Decl) (I : Form Decl) (next : Words → Read Source) (N : Form Source) (T : Form Source) (item_law : (ts : Words) → LawAt item I ts) (next_law : 0 < n → (ts : Words) → LawAt next N ts) (ends : (v : Words) → N [] v v) (grows : 0 < n → (d : Decl) (ds : Source) (ts us vs : Words) → I d ts us → N ds us vs → T (d ∷ ds) ts vs) (over : 0 ≡ n → (l : ℕ) (v : Words) → T [] ((Over, l) ∷ v) v) where
  pub counted_law : (ts : Words) → LawAt (counted n item next) T ts
  counted_law ts =
      let one : Words → Read Source = λ w. and_then (item w) next in
      elim (on_bool (ltb 0 n)) [
        | inl lt ↦ if_true T (λ w. ltb 0 n) one (over_as []) ts (λ a b k. refl) lt
            (let p : 0 < n = ltb-true _ _ lt in
            then_at item (λ d w. next w >>= λ ds. Ok (d ∷ ds.0, ds.1)) I T ts (item_law ts)
            (λ v. (v, λ d us f. (d ∷ [], grows p d [] us v v f (ends v))))
            (λ d us f. then_at next (λ ds w. Ok (d ∷ ds, w)) N _ us (next_law p us)
            (λ v. (v, λ ds ws m. (d ∷ ds, λ zs f. grows p d ds zs ws v f m)))
            (λ ds ws m. gives_at _ (d ∷ ds) ws (λ v ys m zs f. grows p d ds zs ys v f m))))
        | inr ge ↦ if_false T (λ w. ltb 0 n) one (over_as []) ts (λ a b k. refl) ge
            (over_law [] T ts (over (let le = ltb-false _ _ ge in omega (arith, le))))
      ]

grown : (r p l : ℕ) (d : Decl) (ds : Source) (ts us vs : Words) → 0 < r → ReducerForm l d ts us → Declarations (r - 1) p ds us vs → Declarations r p (d ∷ ds) ((Sign Reducer, l) ∷ ts) vs
grown r p l d ds ts us vs some f m = let e : suc (r - 1) ≡ r = omega (arith, some) in subst (λ (r : ℕ). Declarations r p (d ∷ ds) ((Sign Reducer, l) ∷ ts) vs) e (a_reducer (r - 1) p l d ds ts us vs f m)

grown_too : (r p l : ℕ) (b : Bool) (d : Decl) (ds : Source) (ts us vs ws : Words) → 0 < p → ProcedureWord b l ts us → ProcedureForm l b d us vs → Declarations r (p - 1) ds vs ws → Declarations r p (d ∷ ds) ts ws
grown_too r p l b d ds ts us vs ws some w f m = let e : suc (p - 1) ≡ p = omega (arith, some) in subst (λ (p : ℕ). Declarations r p (d ∷ ds) ts ws) e (a_procedure r (p - 1) l b d ds ts us vs ws w f m)

full_too : (r p l k : ℕ) (b : Bool) (ts us : Words) → 0 ≡ p → ProcedureWord b l ts ((Over, k) ∷ us) → Declarations r p [] ts us
full_too r p l k b ts us z w = subst (λ (p : ℕ). Declarations r p [] ts us) z (procedure_over r l k b ts us w)

-- what may stand behind the words in front of a procedure's name
procedure_fill : (r p l : ℕ) (v : Words) → (y : Words) × ((m : Bool) (us : Words) → ProcedureWord m l us y → (ds : Source) × Declarations r p ds us v)
procedure_fill r p l v =
    elim (on_bool (ltb 0 p)) [
      | inl lt ↦ (small v, λ m us w. (Defines l m a_name [] (empty_block 32 v).1 ∷ [], grown_too r p l m _ [] us (small v) v v (ltb-true _ _ lt) w (small_form l m v) (no_declaration r (p - 1) v)))
      | inr ge ↦ let z : 0 ≡ p = let le = ltb-false _ _ ge in omega (arith, le) in ((Over, 0) ∷ v, λ m us w. ([], full_too r p l 0 m us v z w))
    ]

pub declarations_law : (k r p : ℕ) (ts : Words) → r + p < k → LawAt (declarations_at k r p) (Declarations r p) ts
unfolding declarations_at
declarations_law zero r p ts fuel = absurd (omega arith)
declarations_law (suc k) r p ts fuel =
    let T : Form Source = Declarations r p in
    let D : Words → Read Source = λ w. Ok ([], w) in
    let reducers : ℕ → Words → Read Source = λ l. counted r (reducer_at l) (declarations_at k (r - 1) p) in
    let procedures : ℕ → Words → Read Source = λ l w. procedure_word_at w >>= λ m. counted p (procedure_at l m.0) (declarations_at k r (p - 1)) m.1 in
    let others : Words → Read Source = λ w. cond (starts_procedure w) (procedures (line_of w) w) (D w) in
    elim (on_bool (starts Reducer ts)) [
      | inl h ↦ if_true T (starts Reducer) (λ w. reducers (line_of w) (rest w)) others ts (starts_local Reducer) h
          (behind_line Reducer reducers T ts h (λ l us.
          counted_law r (reducer_at l) (ReducerForm l) (declarations_at k (r - 1) p) (Declarations (r - 1) p) _ (reducer_law l) (λ some us. declarations_law k (r - 1) p us (omega (arith, some))) (λ v. no_declaration (r - 1) p v)
          (λ some d ds zs us vs f m. grown r p l d ds zs us vs some f m)
          (λ z i v. subst (λ (r : ℕ). Declarations r p [] ((Sign Reducer, l) ∷ (Over, i) ∷ v) v) z (reducer_over p l i v)) us))
      | inr n ↦ if_false T (starts Reducer) (λ w. reducers (line_of w) (rest w)) others ts (starts_local Reducer) n (elim (on_bool (starts_procedure ts)) [
        | inr m ↦ if_false T starts_procedure (λ w. procedures (line_of w) w) D ts procedure_local m (gives_at T [] ts (λ v. no_declaration r p v))
        | inl h ↦ if_true T starts_procedure (λ w. procedures (line_of w) w) D ts procedure_local h
            (let w = words_law ts h in
            let l = w.0 in
            at_value line_of procedures T l ts line_local w.1
            (then_at procedure_word_at (λ m. counted p (procedure_at l m) (declarations_at k r (p - 1))) (Worded l) T ts w.2 (procedure_fill r p l)
            (λ m us q.
            counted_law p (procedure_at l m) (ProcedureForm l m) (declarations_at k r (p - 1)) (Declarations r (p - 1)) _ (procedure_law l m) (λ some us. declarations_law k r (p - 1) us (omega (arith, some))) (λ v. no_declaration r (p - 1) v)
            (λ some d ds zs us vs f n xs w. grown_too r p l m d ds xs zs us vs some w f n)
            (λ z i v xs w. full_too r p l i m xs v z w) us)))
      ])
    ]
