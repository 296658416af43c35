-- What readers of defining texts do.
use Rattle.std.proofs.Common.{◌≡◌, ℕ, zero, suc, ◌+◌, ◌-◌, ◌<◌, Bool, true, false, cond, ltb, List, [], ◌∷◌, length, Option, Some, None, Ok, Err, refl, sym, ap, subst, ◌∙◌, arith, inl, inr}
use Rattle.std.specs.Prelude.{remove, bytes_eq}
use Rattle.std.specs.Option.{option_map}
use Rattle.std.proofs.lemmas.Bool.{ltb-true, ltb-false}
use Rattle.meaning.specs.Tree.{Name}
use Rattle.token_scanner.specs.declared.token.Mark.TheVariants.{OpenParen, CloseParen, Proc}
use Rattle.token_scanner.specs.Words.{Word, Over, Words, for_some, rest, front_name, line_of}
use Rattle.token_scanner.specs.Words as word
use Rattle.source_tree.specs.Source.{Defines, Source}
use Rattle.source_tree.specs.Lowering.{found_index}
use Rattle.token_readers.specs.Reading.{◌>>=◌, Read}
use Rattle.procedure_parser.specs.Reading.{over_as, params_at, block_at, procedure_word_at, starts_procedure, and_then}
use Rattle.procedure_parser.specs.Grammar.{Form, Params, no_params, Block, ProcedureWord, unmarked, marked}
use Rattle.token_readers.specs.Rooms.{Room, room_behind, turns_of}
use Rattle.procedure_parser.specs.Defining.{BehindName, behind_name, Procedures, no_procedure, one_procedure, no_room, Defining, behind_name_at, nameless_at, named_at, one_at, procedures_at, defining_at}
use Rattle.procedure_parser.proofs.Law.{LawAt, if_true, if_false, some_there, none_there, gives_at, refuses_at, skip_at, map_at, then_at}
use Rattle.procedure_parser.proofs.Head.{on_bool, on_option, name_is, name_local, over_law, at_value, line_local}
use Rattle.procedure_parser.proofs.Statements.{a_name, empty_block, block_law}
use Rattle.procedure_parser.proofs.Declarations.{params_law, Worded, words_law, procedure_local}

-- ---- rooms

place_within : (x : Name) (xs : List Name) (n : ℕ) → found_index x xs ≡ Some n → n < length xs
place_within x [] n e = absurd cc
place_within x (y ∷ ys) n e =
    elim (on_bool (bytes_eq x y)) [
      | inl t ↦
          let g : Some 0 ≡ Some n = sym (ap (λ (b : Bool). cond b (Some 0) (option_map (λ n. suc n) (found_index x ys))) t) ∙ e in
          let k : 0 ≡ n = (cc) in
          omega (arith, k)
      | inr f ↦
          let g : option_map (λ n. suc n) (found_index x ys) ≡ Some n = sym (ap (λ (b : Bool). cond b (Some 0) (option_map (λ n. suc n) (found_index x ys))) f) ∙ e in
          elim (on_option (found_index x ys)) [
            | inl h ↦ let k : None ≡ Some n = sym (ap (λ (o : Option ℕ). option_map (λ n. suc n) o) h) ∙ g in absurd (cc)
            | inr (m, h) ↦
                let k : Some (suc m) ≡ Some n = sym (ap (λ (o : Option ℕ). option_map (λ n. suc n) o) h) ∙ g in
                let j : suc m ≡ n = (cc) in
                let i = place_within x ys m h in
                omega (arith, i, j)
          ]
    ]

remove_length : (xs : List Name) (n : ℕ) → n < length xs → suc (length (remove xs n)) ≡ length xs
remove_length [] n lt = absurd (omega (arith, lt))
remove_length (x ∷ xs) zero lt = refl
remove_length (x ∷ xs) (suc n) lt = ap (λ (k : ℕ). suc k) (remove_length xs n (omega (arith, lt)))

-- there is always less room behind
pub less_room : (room after : Room) (f : Name) → room_behind room f ≡ Some after → turns_of after < turns_of room
less_room (known, p) after f e =
    elim (on_option (found_index f known)) [
      | inr (n, h) ↦
          let g : Some (remove known n, p) ≡ Some after = sym (ap (λ (o : Option ℕ). for_some o (cond (ltb 0 p) (Some (known, p - 1)) None) (λ n. Some (remove known n, p))) h) ∙ e in
          let q : (remove known n, p) ≡ after = (cc) in
          let l = remove_length known n (place_within f known n h) in
          subst (λ (r : Room). turns_of r < length known + p) q (omega (arith, l))
      | inl h ↦
          let g : cond (ltb 0 p) (Some (known, p - 1)) None ≡ Some after = sym (ap (λ (o : Option ℕ). for_some o (cond (ltb 0 p) (Some (known, p - 1)) None) (λ n. Some (remove known n, p))) h) ∙ e in
          elim (on_bool (ltb 0 p)) [
            | inl t ↦
                let k : Some (known, p - 1) ≡ Some after = sym (ap (λ (b : Bool). cond b (Some (known, p - 1)) None) t) ∙ g in
                let q : (known, p - 1) ≡ after = (cc) in
                let lt = ltb-true _ _ t in
                subst (λ (r : Room). turns_of r < length known + p) q (omega (arith, lt))
            | inr t ↦ let k : None ≡ Some after = sym (ap (λ (b : Bool). cond b (Some (known, p - 1)) None) t) ∙ g in absurd (cc)
          ]
    ]

-- where a new one may come, there is room for each name
any_room : (known : List Name) (p : ℕ) (f : Name) → 0 < p → (after : Room) × (room_behind (known, p) f ≡ Some after)
any_room known p f lt =
    elim (on_option (found_index f known)) [
      | inr (n, h) ↦ ((remove known n, p), ap (λ (o : Option ℕ). for_some o (cond (ltb 0 p) (Some (known, p - 1)) None) (λ n. Some (remove known n, p))) h)
      | inl h ↦
          elim (on_bool (ltb 0 p)) [
            | inl t ↦ ((known, p - 1), ap (λ (o : Option ℕ). for_some o (cond (ltb 0 p) (Some (known, p - 1)) None) (λ n. Some (remove known n, p))) h ∙ ap (λ (b : Bool). cond b (Some (known, p - 1)) None) t)
            | inr t ↦ absurd (let le = ltb-false _ _ t in omega (arith, le, lt))
          ]
    ]

-- where there is none for a name, no new one may come
full : (known : List Name) (p : ℕ) (f : Name) → room_behind (known, p) f ≡ None → p ≡ 0
full known zero f e = refl
full known (suc p) f e = let a = any_room known (suc p) f (omega arith) in let k : None ≡ Some a.0 = sym e ∙ a.1 in absurd (cc)

-- ---- one procedure

behind_name_law : (l : ℕ) (m : Bool) (f : Name) (us : Words) → LawAt (behind_name_at l m f) (BehindName l m f) us
unfolding behind_name_at
behind_name_law l m f us =
    then_at params_at (λ xs w. block_at 32 w >>= λ ss. Ok (Defines l m f xs ss.0, ss.1)) Params (BehindName l m f) us (params_law us)
    (λ v. let z = empty_block 32 v in (z.0, λ xs us p. (Defines l m f xs z.1, behind_name xs z.1 us z.0 v p z.2)))
    (λ xs ws q. then_at (block_at 32) (λ ss w. Ok (Defines l m f xs ss, w)) (Block 32) _ ws (block_law 32 ws)
    (λ v. (v, λ ss us b. (Defines l m f xs ss, λ zs p. behind_name xs ss zs us v p b)))
    (λ ss us b. gives_at _ (Defines l m f xs ss) us (λ v ys b zs p. behind_name xs ss zs ys v p b)))

starts_there : (m : Bool) (l : ℕ) (ts us : Words) → ProcedureWord m l ts us → starts_procedure ts ≡ true
starts_there _ _ _ _ (unmarked l us) = refl
starts_there _ _ _ _ (marked l k us) = refl

over_there : (known : List Name) (p l k : ℕ) (m : Bool) (ts us : Words) → p ≡ 0 → ProcedureWord m l ts ((Over, k) ∷ us) → Procedures (known, p) [] ts us
over_there known p l k m ts us z w = subst (λ (p : ℕ). Procedures (known, p) [] ts us) (sym z) (no_room known l k m ts us w)

-- what may stand behind the words in front of a name
one_fill : (known : List Name) (p l : ℕ) (v : Words) → (y : Words) × ((m : Bool) (us : Words) → ProcedureWord m l us y → (ds : Source) × Defining (known, p) ds us v)
one_fill known p l v =
    elim (on_bool (ltb 0 p)) [
      | inl lt ↦
          let z = empty_block 32 v in
          let a = any_room known p a_name (ltb-true _ _ lt) in
          ((word.Name a_name, 0) ∷ (word.Sign OpenParen, 0) ∷ (word.Sign CloseParen, 0) ∷ z.0, λ m us w. (Defines l m a_name [] z.1 ∷ [], (starts_there m l us _ w, one_procedure (known, p) a.0 l 0 m a_name (Defines l m a_name [] z.1) [] us _ v v w a.1 (behind_name [] z.1 _ z.0 v (no_params 0 0 z.0) z.2) (no_procedure a.0 v))))
      | inr ge ↦
          let le = ltb-false _ _ ge in
          ((Over, 0) ∷ v, λ m us w. ([], (starts_there m l us _ w, over_there known p l 0 m us v (omega (arith, le)) w)))
    ]

module _ (known : List Name) (p : ℕ) (next : Room → Words → Read Source) (next_law : (after : Room) → turns_of after < length known + p → (ts : Words) → LawAt (next after) (Procedures after) ts) (l : ℕ) where
  abbrev T : Form Source
  T = Defining (known, p)

  -- behind the words in front of a name
  abbrev C : Bool → Form Source
  C m s us vs = (ts : Words) → ProcedureWord m l ts us → T s ts vs

  -- behind a name for which there is room
  there_law : (m : Bool) (f : Name) (i : ℕ) (zs : Words) (after : Room) → room_behind (known, p) f ≡ Some after → LawAt (λ w. and_then (behind_name_at l m f w) (next after)) (λ s us vs. C m s ((word.Name f, i) ∷ us) vs) zs
  there_law m f i zs after e =
      then_at (behind_name_at l m f) (λ d w. next after w >>= λ ds. Ok (d ∷ ds.0, ds.1)) (BehindName l m f) _ zs (behind_name_law l m f zs)
      (λ v. (v, λ d us b. (d ∷ [], λ ts w. (starts_there m l ts _ w, one_procedure (known, p) after l i m f d [] ts us v v w e b (no_procedure after v)))))
      (λ d us b. then_at (next after) (λ ds w. Ok (d ∷ ds, w)) (Procedures after) _ us (next_law after (less_room (known, p) after f e) us)
      (λ v. (v, λ ds ws q. (d ∷ ds, λ xs b ts w. (starts_there m l ts _ w, one_procedure (known, p) after l i m f d ds ts xs ws v w e b q))))
      (λ ds ws q. gives_at _ (d ∷ ds) ws (λ v ys q xs b ts w. (starts_there m l ts _ w, one_procedure (known, p) after l i m f d ds ts xs ys v w e b q))))

  abbrev behind : Bool → Name → Words → Room → Read Source
  behind m f w after = and_then (behind_name_at l m f (rest w)) (next after)

  abbrev with_name : Bool → Name → Words → Read Source
  with_name m f w = for_some (room_behind (known, p) f) (Err w) (behind m f w)

  named_law : (m : Bool) (us : Words) → LawAt (named_at (known, p) next l m) (C m) us
  unfolding named_at nameless_at
  named_law m us =
      elim (on_option (front_name us)) [
        | inl n ↦ none_there (C m) front_name (λ w. nameless_at p w) (with_name m) us name_local n (elim (on_bool (ltb 0 p)) [
          | inl lt ↦ if_true (C m) (λ w. ltb 0 p) (λ w. Err w) (over_as []) us (λ a b k. refl) lt
              (refuses_at (C m) us (λ v. let z = empty_block 32 v in let a = any_room known p a_name (ltb-true _ _ lt) in
              ((word.Name a_name, 0) ∷ (word.Sign OpenParen, 0) ∷ (word.Sign CloseParen, 0) ∷ z.0, Defines l m a_name [] z.1 ∷ [], λ ts w. (starts_there m l ts _ w, one_procedure (known, p) a.0 l 0 m a_name (Defines l m a_name [] z.1) [] ts _ v v w a.1 (behind_name [] z.1 _ z.0 v (no_params 0 0 z.0) z.2) (no_procedure a.0 v)))))
          | inr ge ↦ if_false (C m) (λ w. ltb 0 p) (λ w. Err w) (over_as []) us (λ a b k. refl) ge
              (over_law [] (C m) us (λ k v ts w. (starts_there m l ts _ w, over_there known p l k m ts v (let le = ltb-false _ _ ge in omega (arith, le)) w)))
        ])
        | inr (f, h) ↦ some_there (C m) front_name (λ w. nameless_at p w) (with_name m) us f name_local h (elim (on_option (room_behind (known, p) f)) [
          | inl e ↦ subst (λ (o : Option Room). LawAt (λ w. for_some o (Err w) (behind m f w)) (C m) us) (sym e)
              (refuses_at (C m) us (λ v. ((Over, 0) ∷ v, [], λ ts w. (starts_there m l ts _ w, over_there known p l 0 m ts v (full known p f e) w))))
          | inr (after, e) ↦
              let s = name_is us f h in
              subst (λ (o : Option Room). LawAt (λ w. for_some o (Err w) (behind m f w)) (C m) us) (sym e)
              (subst (λ (w : Words). LawAt (λ w. behind m f w after) (C m) w) (sym s.2)
              (skip_at (λ w. and_then (behind_name_at l m f w) (next after)) (λ q us vs. C m q ((word.Name f, s.0) ∷ us) vs) (C m) (word.Name f, s.0) s.1 (λ a us vs r. r) (there_law m f s.0 s.1 after e)))
        ])
      ]

one_law : (known : List Name) (p : ℕ) (next : Room → Words → Read Source) → ((after : Room) → turns_of after < length known + p → (ts : Words) → LawAt (next after) (Procedures after) ts) → (ts : Words) → starts_procedure ts ≡ true → LawAt (one_at (known, p) next) (Defining (known, p)) ts
unfolding one_at
one_law known p next next_law ts h =
    let w = words_law ts h in
    let l = w.0 in
    at_value line_of (λ l w. procedure_word_at w >>= λ m. named_at (known, p) next l m.0 m.1) (Defining (known, p)) l ts line_local w.1
    (then_at procedure_word_at (λ m. named_at (known, p) next l m) (Worded l) (Defining (known, p)) ts w.2 (one_fill known p l)
    (λ m us q. named_law known p next next_law l m us))

procedures_law : (k : ℕ) (room : Room) (ts : Words) → turns_of room < k → LawAt (procedures_at k room) (Procedures room) ts
unfolding procedures_at
procedures_law zero room ts fuel = absurd (omega (arith, fuel))
procedures_law (suc k) (known, p) ts fuel =
    elim (on_bool (starts_procedure ts)) [
      | inr n ↦ if_false (Procedures (known, p)) starts_procedure (one_at (known, p) (procedures_at k)) (λ w. Ok ([], w)) ts procedure_local n (gives_at _ [] ts (λ v. no_procedure (known, p) v))
      | inl h ↦ if_true (Procedures (known, p)) starts_procedure (one_at (known, p) (procedures_at k)) (λ w. Ok ([], w)) ts procedure_local h
          (map_at (one_at (known, p) (procedures_at k)) (Defining (known, p)) (Procedures (known, p)) ts (λ s us vs d. d.1)
          (one_law known p (procedures_at k) (λ after lt us. procedures_law k after us (omega (arith, fuel, lt))) ts h))
    ]

pub defining_law : (room : Room) (ts : Words) → LawAt (defining_at room) (Defining room) ts
unfolding defining_at
defining_law (known, p) ts =
    elim (on_bool (starts_procedure ts)) [
      | inr n ↦ if_false (Defining (known, p)) starts_procedure (one_at (known, p) (procedures_at (length known + p))) (λ w. Err w) ts procedure_local n
          (refuses_at (Defining (known, p)) ts (λ v. let f = one_fill known p 0 v in let g = f.1 false ((word.Sign Proc, 0) ∷ f.0) (unmarked 0 f.0) in ((word.Sign Proc, 0) ∷ f.0, g.0, g.1)))
      | inl h ↦ if_true (Defining (known, p)) starts_procedure (one_at (known, p) (procedures_at (length known + p))) (λ w. Err w) ts procedure_local h
          (one_law known p (procedures_at (length known + p)) (λ after lt us. procedures_law (length known + p) after us lt) ts h)
    ]
