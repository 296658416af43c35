-- What the short forms of statements say of their meaning.
use Rattle.std.proofs.Common.{◌≡◌, ◌∙◌, ◌<◌, ℕ, zero, suc, ℤ, Bool, List, [], ◌∷◌, Some, None, Result, Ok, Err, length, map, slice_get, if◌then◌else◌, refl, sym, ap, subst, inl, inr, arith}
use Rattle.std.specs.Prelude.{Vec}
use Rattle.std.specs.declared.alloc.Global.{Global}
use Rattle.std.proofs.lemmas.List.{append-nil}
use Rattle.monoid_laws.specs.declared.Kind.{Kind}
use Rattle.meaning.specs.declared.FaultKind.{FaultKind}
use Rattle.linked_program.specs.declared.code.Expression.{Expression}
use Rattle.linked_program.specs.declared.code.Instruction.{Instruction}
use Rattle.linked_program.specs.declared.code.Operation.{Operation}
use Rattle.linked_program.specs.declared.code.Operation.TheVariants as o
use Rattle.linked_program.specs.declared.code.Target.{Target}
use Rattle.linked_program.specs.declared.code.Target.TheVariants as target
use Rattle.linked_program.specs.Linked.{Linked, Acts, ends, steps, syncs, updates, binds, chooses, gives}
use Rattle.linked_program.specs.CodeView.{expression, act, act_for, HasArity, instruction_at}
use Rattle.evaluation.specs.declared.slot.Slot.TheVariants.{Has}
use Rattle.evaluation.specs.declared.note.Note.{Note}
use Rattle.evaluation.specs.Values.{NumberedOut, mapped, onward, pure, value_at, values_at}
use Rattle.positions.specs.declared.phase.Phase.TheVariants.{Running, Returning}
use Rattle.positions.specs.declared.work.Position.{Position}
use Rattle.positions.specs.declared.work.Work.TheVariants.{Block}
use Rattle.positions.specs.Code.{instruction_inside}
use Rattle.positions.specs.Setting.{Setting}
use Rattle.positions.specs.Activations.{PlainActivation, at, next_of, bound}
use Rattle.positions.specs.Layers.{PlainLayer, noting}
use Rattle.positions.specs.Advance.{evaluated, answered, noted, binding, choosing, combining, giving, moved_on, performed}
use Rattle.positions.specs.Strands.{PlainStrand, is_entry}
use Rattle.own_statements.specs.declared.statements.Did.{Did}
use Rattle.own_statements.specs.declared.statements.Did.TheVariants.{Nothing, Next, Moved, Gave}
use Rattle.own_statements.specs.Effects.{Comes, combining_one, goes_on}
use Rattle.own_statements.specs.Fills.{Fills}
use Rattle.own_statements.specs.Paths.{ComesTo, Does, topped}
use Rattle.own_statements.proofs.AtOnce.{noting_none}
use Rattle.own_statements.proofs.Paths.{does_as, come_next, come_passed}
use Rattle.own_statements.proofs.Updates.{does_update}

-- ---- the operation that a form stands for

-- a plain block that tells its number
abbrev pub numbered : ℕ → Acts
numbered k = steps k syncs ends

is_update : (op : Operation) (r : ℕ) (es : List Linked) → act numbered op ≡ updates r es → (xs : Vec Expression Global) × (op ≡ o.Update r xs) × (es ≡ map expression xs.items)
is_update (o.Update s xs) r es e = let q : s ≡ r = cc in (xs, ap (λ k. o.Update k xs) q, cc)
is_update (o.Bind x y) r es e = absurd cc
is_update (o.Enter x way f xs) r es e = absurd cc
is_update (o.Read x s) r es e = absurd cc
is_update o.Sync r es e = absurd cc
is_update (o.If x b c) r es e = absurd cc
is_update (o.Loop x low high grain f xs) r es e = absurd cc
is_update (o.Return x) r es e = absurd cc

is_bind : (op : Operation) (x : ℕ) (e : Linked) → act numbered op ≡ binds x e → (y : Expression) × (op ≡ o.Bind x y) × (e ≡ expression y)
is_bind (o.Bind z y) x e is = let q : z ≡ x = cc in (y, ap (λ k. o.Bind k y) q, cc)
is_bind (o.Update s xs) x e is = absurd cc
is_bind (o.Enter z way f xs) x e is = absurd cc
is_bind (o.Read z s) x e is = absurd cc
is_bind o.Sync x e is = absurd cc
is_bind (o.If z b c) x e is = absurd cc
is_bind (o.Loop z low high grain f xs) x e is = absurd cc
is_bind (o.Return z) x e is = absurd cc

is_give : (op : Operation) (e : Linked) → act numbered op ≡ gives e → (y : Expression) × (op ≡ o.Return y) × (e ≡ expression y)
is_give (o.Return y) e is = (y, refl, cc)
is_give (o.Bind z y) e is = absurd cc
is_give (o.Update s xs) e is = absurd cc
is_give (o.Enter z way f xs) e is = absurd cc
is_give (o.Read z s) e is = absurd cc
is_give o.Sync e is = absurd cc
is_give (o.If z b c) e is = absurd cc
is_give (o.Loop z low high grain f xs) e is = absurd cc

is_choice : (op : Operation) (e : Linked) (b c : ℕ) → act numbered op ≡ chooses e (numbered b) (numbered c) → (y : Expression) × (op ≡ o.If y b c) × (e ≡ expression y)
is_choice (o.If y f g) e b c is =
    let p : f ≡ b = cc in
    let q : g ≡ c = cc in
    (y, ap (λ k. o.If y k g) p ∙ ap (λ k. o.If y b k) q, cc)
is_choice (o.Update s xs) e b c is = absurd cc
is_choice (o.Enter x way f xs) e b c is = absurd cc
is_choice (o.Read x s) e b c is = absurd cc
is_choice o.Sync e b c is = absurd cc
is_choice (o.Bind x y) e b c is = absurd cc
is_choice (o.Loop x low high grain f xs) e b c is = absurd cc
is_choice (o.Return x) e b c is = absurd cc

is_sync : (op : Operation) → act numbered op ≡ syncs → op ≡ o.Sync
is_sync o.Sync is = refl
is_sync (o.If y b c) is = absurd cc
is_sync (o.Update s xs) is = absurd cc
is_sync (o.Enter x way f xs) is = absurd cc
is_sync (o.Read x s) is = absurd cc
is_sync (o.Bind x y) is = absurd cc
is_sync (o.Loop x low high grain f xs) is = absurd cc
is_sync (o.Return x) is = absurd cc

-- ---- its meaning

module _ (S : Setting) (passes : Bool) (p : Position) (f : Bool → PlainStrand → PlainStrand) (a : PlainActivation) (l : PlainLayer) where
  pub comes : (did : Did) (b : PlainActivation) (m : PlainLayer) → Does passes p f a l did b m → Comes S passes p f a l did b m
  comes Nothing b m h = h
  comes Next b m h = inl h
  comes Moved b m h = h
  comes (Gave v) b m h = h

  pub comes_as : (g : Bool → PlainStrand → PlainStrand) (did : Did) (b : PlainActivation) (m : PlainLayer)
      → ((kit : Bool) (s : PlainStrand) → f kit (topped Running (at (Block p) a) l s) ≡ g kit (topped Running (at (Block p) a) l s)) → Comes S passes p f a l did b m → Comes S passes p g a l did b m
  comes_as g Nothing b m e h = h
  comes_as g Next b m e (inl h) = inl (λ s may kit. h s may kit ∙ e kit s)
  comes_as g Next b m e (inr h) = inr (h.0, h.1, (λ s may kit. h.2 s may kit ∙ e kit s))
  comes_as g Moved b m e h = λ s may kit. h s may kit ∙ e kit s
  comes_as g (Gave v) b m e h = λ s may kit. h s may kit ∙ e kit s

-- the values of one expression alone
by_answer : (n : ℕ) (ns : List Note) (r : Result ℤ FaultKind) (f : List ℤ → PlainStrand → PlainStrand) (s : PlainStrand)
    → evaluated n (onward ns r (λ v. mapped (λ vs. v ∷ vs) (pure []))) f s ≡ answered n r (λ v. f (v ∷ [])) (noted ns s)
by_answer n ns (Ok v) f s = ap (λ (ms : List Note). f (v ∷ []) (noted ms s)) (append-nil ns)
by_answer n ns (Err k) f s = refl

one_of_values : (n : ℕ) (o : NumberedOut ℤ) (f : List ℤ → PlainStrand → PlainStrand) (s : PlainStrand)
    → evaluated n (onward o.notes o.answer (λ v. mapped (λ vs. v ∷ vs) (pure []))) f s ≡ evaluated n o (λ v. f (v ∷ [])) s
one_of_values n o f s = by_answer n o.notes o.answer f s

module _ (S : Setting) (passes : Bool) (p : Position) (n : ℕ) (a : PlainActivation) (l : PlainLayer) (did : Did) (b : PlainActivation) (m : PlainLayer) (op : Operation) where
  pub short_update : (r : ℕ) (es : List Linked) → act numbered op ≡ updates r es
      → Does passes p (λ kit. evaluated n (values_at S.tables a.slots es) (combining (slice_get S.kinds r) n p r)) a l did b m
      → Does passes p (λ kit. performed S kit p n op) a l did b m
  short_update r es is h =
      let found = is_update op r es is in
      does_update S passes p n r found.0 found.0.items op a l did b m found.1 refl
      (subst (λ (ys : List Linked). Does passes p (λ kit. evaluated n (values_at S.tables a.slots ys) (combining (slice_get S.kinds r) n p r)) a l did b m) found.2 h)

  pub short_value : (t : Target) (e : Linked) → act numbered op ≡ act_for numbered e t
      → Comes S passes p (λ kit. evaluated n (value_at S.tables a.slots e) (goes_on S.kinds n p t)) a l did b m
      → Comes S passes p (λ kit. performed S kit p n op) a l did b m
  short_value (target.Slot x) e is h =
      let found = is_bind op x e is in
      subst (λ (q : Operation). Comes S passes p (λ kit. performed S kit p n q) a l did b m) (sym found.1)
      (comes_as S passes p (λ (kit : Bool). evaluated n (value_at S.tables a.slots (expression found.0)) (binding p x)) a l (λ kit. performed S kit p n (o.Bind x found.0)) did b m (λ kit s. refl)
      (subst (λ (z : Linked). Comes S passes p (λ kit. evaluated n (value_at S.tables a.slots z) (binding p x)) a l did b m) found.2 h))
  short_value (target.Blocks first second) e is h =
      let found = is_choice op e first second is in
      subst (λ (q : Operation). Comes S passes p (λ kit. performed S kit p n q) a l did b m) (sym found.1)
      (comes_as S passes p (λ (kit : Bool). evaluated n (value_at S.tables a.slots (expression found.0)) (choosing p first second)) a l (λ kit. performed S kit p n (o.If found.0 first second)) did b m (λ kit s. refl)
      (subst (λ (z : Linked). Comes S passes p (λ kit. evaluated n (value_at S.tables a.slots z) (choosing p first second)) a l did b m) found.2 h))
  short_value target.Back e is h =
      let found = is_give op e is in
      subst (λ (q : Operation). Comes S passes p (λ kit. performed S kit p n q) a l did b m) (sym found.1)
      (comes_as S passes p (λ (kit : Bool). evaluated n (value_at S.tables a.slots (expression found.0)) giving) a l (λ kit. performed S kit p n (o.Return found.0)) did b m (λ kit s. refl)
      (subst (λ (z : Linked). Comes S passes p (λ kit. evaluated n (value_at S.tables a.slots z) giving) a l did b m) found.2 h))
  short_value (target.Update r) e is h =
      let found = is_update op r (e ∷ []) is in
      subst (λ (q : Operation). Comes S passes p (λ kit. performed S kit p n q) a l did b m) (sym found.1)
      (comes_as S passes p (λ (kit : Bool). evaluated n (value_at S.tables a.slots e) (combining_one (slice_get S.kinds r) n p r)) a l (λ kit. performed S kit p n (o.Update r found.0)) did b m
      (λ kit s. sym (one_of_values n (value_at S.tables a.slots e) (combining (slice_get S.kinds r) n p r) (topped Running (at (Block p) a) l s))
      ∙ ap (λ (es : List Linked). evaluated n (values_at S.tables a.slots es) (combining (slice_get S.kinds r) n p r) (topped Running (at (Block p) a) l s)) found.2)
      h)

  pub short_sync : act numbered op ≡ syncs
      → Does passes p (λ kit s. if is_entry s then s else moved_on p s) a l did b m
      → Does passes p (λ kit. performed S kit p n op) a l did b m
  short_sync is h =
      subst (λ (q : Operation). Does passes p (λ kit. performed S kit p n q) a l did b m) (sym (is_sync op is))
      (does_as S passes p (λ (kit : Bool). (λ s. if is_entry s then s else moved_on p s)) (λ kit. performed S kit p n o.Sync) a l did b m (λ kit s. refl) h)

-- an instance comes to the next statement of its block by a short form
pub come_short : (S : Setting) (passes : Bool) (a : PlainActivation) (l : PlainLayer) (p : Position) (b : PlainActivation) (m : PlainLayer) → ComesTo S passes a l None (at (Block p) b) m
    → (i : Instruction) → Some i ≡ instruction_inside S.codes b.procedure (length b.outer) p → (c : PlainActivation) (n : PlainLayer) → c.procedure ≡ b.procedure
    → Comes S passes p (λ kit. performed S kit p i.number i.operation) b m Next c n → ComesTo S passes a l None (at (Block (next_of p)) c) n
come_short S passes a l p b m come i found c n same (inl h) = come_next S passes a l p b m come i found c n h
come_short S passes a l p b m come i found c n same (inr h) =
    come_passed S passes a l p b m come i found c n h.0 (ap (λ f. instruction_at S.codes f h.0 0) same ∙ h.1) h.2

-- ---- values that were found

-- a reducer that takes so many numbers is there
pub taken : (n : ℕ) (xs : List Kind) (r : ℕ) → HasArity n (slice_get xs r) → r < length xs
taken n [] r h = absurd h
taken n (x ∷ xs) zero h = omega arith
taken n (x ∷ xs) (suc r) h = let rest = taken n xs r h in omega (arith, rest)

module _ (passes : Bool) (p : Position) (n : ℕ) (a : PlainActivation) (l : PlainLayer) (o : NumberedOut ℤ) (v : ℤ) (found : Fills o v l l) where
  pub binds_found : (x : ℕ) → Does passes p (λ kit. evaluated n o (binding p x)) a l Next (bound (Some x) (Has v) a) l
  binds_found x s may kit =
      ap (λ (k : PlainLayer). topped Running (at (Block (next_of p)) (bound (Some x) (Has v) a)) k s) found.1
      ∙ sym (ap (λ r. answered n r (binding p x) (noted o.notes (topped Running (at (Block p) a) l s))) found.0)

  pub gives_found : Does passes p (λ kit. evaluated n o giving) a l (Gave v) a l
  gives_found s may kit =
      ap (λ (k : PlainLayer). topped (Returning v) (at (Block p) a) k s) found.1
      ∙ sym (ap (λ r. answered n r giving (noted o.notes (topped Running (at (Block p) a) l s))) found.0)

  -- an update by that value is an update by a number that reads nothing
  as_number : (f : List ℤ → PlainStrand → PlainStrand) (s : PlainStrand)
      → evaluated n (pure (v ∷ [])) f (topped Running (at (Block p) a) l s) ≡ evaluated n o (λ w. f (w ∷ [])) (topped Running (at (Block p) a) l s)
  as_number f s =
      ap (λ (k : PlainLayer). f (v ∷ []) (topped Running (at (Block p) a) k s)) (noting_none l ∙ found.1)
      ∙ sym (ap (λ r. answered n r (λ w. f (w ∷ [])) (noted o.notes (topped Running (at (Block p) a) l s))) found.0)

  pub updates_found : (f : List ℤ → PlainStrand → PlainStrand) (did : Did) (b : PlainActivation) (m : PlainLayer)
      → Does passes p (λ kit. evaluated n (pure (v ∷ [])) f) a l did b m → Does passes p (λ kit. evaluated n o (λ w. f (w ∷ []))) a l did b m
  updates_found f Nothing b m h = h
  updates_found f Next b m h = λ s may kit. h s may kit ∙ as_number f s
  updates_found f Moved b m h = λ s may kit. h s may kit ∙ as_number f s
  updates_found f (Gave x) b m h = λ s may kit. h s may kit ∙ as_number f s
