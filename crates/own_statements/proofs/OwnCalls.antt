-- Instances of a procedure that calls itself: the small steps of their statements, and of a call.
use Rattle.std.proofs.Common.{◌≡◌, ◌∙◌, ◌++◌, ◌∷◌, [], ◌+◌, ◌-◌, ◌<◌, ◌≤◌, ◌==◌, ℕ, zero, suc, ℤ, pos, Bool, true, false, List, Option, Some, None, length, map, max, min, take, replicate, if◌then◌else◌, slice_set, slice_get, add-one, refl, sym, ap, subst, arith, append_assoc}
use Rattle.std.proofs.Math.Seq.{take-append_seam}
use Rattle.std.proofs.lemmas.List.{append-nil, take-replicate, length-append, map-append}
use Rattle.meaning.specs.declared.tree.Way.{Way}
use Rattle.meaning.specs.declared.tree.Way.TheVariants.{Call}
use Rattle.meaning.specs.declared.FaultKind.TheVariants.{TooDeep}
use Rattle.meaning.specs.Elision.{depth_limit}
use Rattle.meaning.specs.Tables.{Tables}
use Rattle.std.specs.Prelude.{IfSome}
use Rattle.std.specs.Ordering.{int_eq}
use Rattle.linked_program.specs.declared.code.Code.{Code}
use Rattle.linked_program.specs.declared.code.Expression.{Expression}
use Rattle.linked_program.specs.declared.code.Instruction.{Instruction}
use Rattle.linked_program.specs.declared.code.Operation.{Operation}
use Rattle.linked_program.specs.declared.code.Operation.TheVariants as o
use Rattle.linked_program.specs.CodeView.{expression, memo_of, slots_of}
use Rattle.linked_program.specs.Linked.{Linked}
use Rattle.linked_program.specs.Checked.{PlainChecked}
use Rattle.record_theory.specs.Record.{PlainRecord}
use Rattle.evaluation.specs.declared.note.Note.{Note}
use Rattle.evaluation.specs.declared.slot.Slot.{Slot}
use Rattle.evaluation.specs.declared.slot.Slot.TheVariants.{Has, Unset}
use Rattle.evaluation.specs.Slots.{slots_for}
use Rattle.evaluation.specs.Values.{NumberedOut, pure, value_at, values_at, entry_at, mapped, ◌>>=◌}
use Rattle.positions.specs.declared.phase.Phase.TheVariants.{Running, Returning, Leaving, Entering}
use Rattle.positions.specs.declared.work.Position.{Position}
use Rattle.positions.specs.declared.work.Work.{Work}
use Rattle.positions.specs.declared.work.Work.TheVariants.{Block, Over}
use Rattle.positions.specs.Activations.{PlainActivation, bound, waiting, with_slot, next_of, first_of, made, inside}
use Rattle.positions.specs.Code.{instruction_inside}
use Rattle.positions.specs.Layers.{PlainLayer, kept_behind, noting, entering}
use Rattle.positions.specs.Setting.{Setting, setting_with}
use Rattle.positions.specs.Strands.{PlainStrand, entry_by, is_entry, shorter}
use Rattle.positions.specs.Tallies.{is_own}
use Rattle.positions.specs.Advance.{advanced, performed, gone_by, evaluated, choosing, giving, moved_on, binding, called, called_as, started_as, pushed, child_of, faulted, closed, owns_top, in_phase}
use Rattle.own_statements.specs.Paths.{HasRoomAbove, IsNext, IsPath, here, on, topped}
use Rattle.own_statements.specs.declared.recursion.Found.{Found}
use Rattle.own_statements.specs.declared.recursion.Found.TheVariants.{Nothing, Next, Gave}
use Rattle.own_statements.specs.Recursion.{deep, begun, standing, Gives, Comes, GivesOf, ReturnsBy, InsideBy, FoundBy, AreValues, laid_over, IsBegun, IsCalled}
use Rattle.own_statements.proofs.Paths.{path_join}

-- ---- names and layers

pub path_back : (xs : List ℕ) (x : ℕ) → shorter (xs ++ x ∷ []) ≡ xs
path_back xs x =
    let e : length (xs ++ x ∷ []) ≡ length xs + 1 = length-append xs (x ∷ []) in
    let f : length (xs ++ x ∷ []) - 1 ≡ length xs = omega arith in
    ap (λ n. take n (xs ++ x ∷ [])) f ∙ take-append_seam xs (x ∷ [])

none_noted : (b : Bool) (xs : List Note) → kept_behind b xs [] ≡ xs
none_noted true xs = append-nil xs
none_noted false xs = refl

pub noting_none : (l : PlainLayer) → noting [] l ≡ l
noting_none l = ap (λ (xs : List Note). record l { notes = xs }) (none_noted l.keeps l.notes)

set_twice : (xs : List Bool) (p : ℕ) → slice_set (slice_set xs p true) p true ≡ slice_set xs p true
set_twice [] p = refl
set_twice (x ∷ xs) zero = refl
set_twice (x ∷ xs) (suc p) = ap (λ (ys : List Bool). x ∷ ys) (set_twice xs p)

-- of two depths the deeper one
deeper : (d n k : ℕ) → max (max d (depth_limit - n)) (depth_limit - k) ≡ max d (depth_limit - min n k)
deeper d n k = omega arith

pub deep_twice : (f n k : ℕ) (l : PlainLayer) → entering f (depth_limit - k) (deep f n l) ≡ deep f (min n k) l
deep_twice f n k l =
    ap (λ (fs : List Bool). record l { entered = fs; deepest = max (max l.deepest (depth_limit - n)) (depth_limit - k) }) (set_twice l.entered f)
    ∙ ap (λ d. record l { entered = slice_set l.entered f true; deepest = d }) (deeper l.deepest n k)

-- ---- the statement at a place

module _ (setting : Setting) (f left : ℕ) (slots : List Slot) (p : Position) (children : ℕ) (spawned : Bool) (into : Option ℕ) (m : PlainLayer) (s : PlainStrand) where
  abbrev pub top : PlainActivation
  top = standing f left slots p children spawned into

  abbrev pub there : PlainStrand
  there = topped Running top m s

  -- an evaluation that reads nothing
  read_nothing : {A : Type 0} (n : ℕ) (q : NumberedOut A) (v : A) (next : A → PlainStrand → PlainStrand) → q ≡ pure v → evaluated n q next there ≡ next v there
  read_nothing n q v next e = ap (λ x. evaluated n x next there) e ∙ ap (λ (k : PlainLayer). next v (topped Running top k s)) (noting_none m)

  module _ (i : Instruction) (found : Some i ≡ instruction_inside setting.codes f 0 p) where
    -- the meaning of the statement is the next small step
    is_step : (op : Operation) → i.operation ≡ op → (kit : Bool) → performed setting kit p i.number op there ≡ advanced setting kit there
    is_step op is kit = sym (ap (λ x. performed setting kit p i.number x there) is) ∙ ap (λ x. gone_by setting kit p x there) found

    pub binds : (name : ℕ) (e : Expression) (v : ℤ) → i.operation ≡ o.Bind name e → value_at setting.tables slots (expression e) ≡ pure v
        → IsPath setting there (topped Running (standing f left (slice_set slots name (Has v)) (next_of p) children spawned into) m s)
    binds name e v is value =
        on there (topped Running (standing f left (slice_set slots name (Has v)) (next_of p) children spawned into) m s) here
        (λ kit. sym (read_nothing i.number (value_at setting.tables slots (expression e)) v (binding p name) value) ∙ is_step (o.Bind name e) is kit)

    pub syncs : i.operation ≡ o.Sync → is_entry s ≡ false → IsPath setting there (topped Running (standing f left slots (next_of p) children spawned into) m s)
    syncs is entry =
        on there (topped Running (standing f left slots (next_of p) children spawned into) m s) here
        (λ kit. sym (ap (λ b. if b then there else moved_on p there) entry) ∙ is_step o.Sync is kit)

    pub returns : (e : Expression) (v : ℤ) → i.operation ≡ o.Return e → value_at setting.tables slots (expression e) ≡ pure v → IsPath setting there (topped (Returning v) top m s)
    returns e v is value =
        on there (topped (Returning v) top m s) here (λ kit. sym (read_nothing i.number (value_at setting.tables slots (expression e)) v giving value) ∙ is_step (o.Return e) is kit)

    -- a choice goes into a block
    module _ (e : Expression) (first second block : ℕ) (v : ℤ) (is : i.operation ≡ o.If e first second) (value : value_at setting.tables slots (expression e) ≡ pure v) (chosen : block ≡ (if int_eq v (pos 0) then second else first)) where
      abbrev pub within : PlainStrand
      within = topped Running (inside block p top) m s

      chooses : IsPath setting there within
      chooses =
          on there within here
          (λ kit. ap (λ b. topped Running (inside b p top) m s) chosen ∙ sym (read_nothing i.number (value_at setting.tables slots (expression e)) v (choosing p first second) value) ∙ is_step (o.If e first second) is kit)

      pub passes : None ≡ instruction_inside setting.codes f 1 (first_of block) → IsPath setting there (topped Running (standing f left slots (next_of p) children spawned into) m s)
      passes none =
          on within (topped Running (standing f left slots (next_of p) children spawned into) m s) chooses (λ kit. ap (λ x. gone_by setting kit (first_of block) x within) none)

      gives_by : (j : Instruction) (op : Operation) (u : ℤ) → j.operation ≡ op → Some j ≡ instruction_inside setting.codes f 1 (first_of block) → GivesOf setting.tables op slots u
          → IsPath setting there (topped (Returning u) (inside block p top) m s)
      gives_by j (o.Return d) u op there_is gives =
          on within (topped (Returning u) (inside block p top) m s) chooses
          (λ kit. ap (λ (k : PlainLayer). topped (Returning u) (inside block p top) k s) (sym (noting_none m))
          ∙ sym (ap (λ x. evaluated j.number x giving within) gives) ∙ sym (ap (λ x. performed setting kit (first_of block) j.number x within) op) ∙ ap (λ x. gone_by setting kit (first_of block) x within) there_is)
      gives_by j (o.Bind x d) u op there_is gives = absurd cc
      gives_by j (o.Enter x w g ds) u op there_is gives = absurd cc
      gives_by j (o.Read x r) u op there_is gives = absurd cc
      gives_by j o.Sync u op there_is gives = absurd cc
      gives_by j (o.Update r ds) u op there_is gives = absurd cc
      gives_by j (o.If d a b) u op there_is gives = absurd cc
      gives_by j (o.Loop x low high grain g ds) u op there_is gives = absurd cc

      pub gives_inside : (j : Instruction) (u : ℤ) → Some j ≡ instruction_inside setting.codes f 1 (first_of block) → GivesOf setting.tables j.operation slots u
          → IsPath setting there (topped (Returning u) (inside block p top) m s)
      gives_inside j u there_is gives = gives_by j j.operation u refl there_is gives

-- ---- the statements as they are found

module _ (setting : Setting) (f : ℕ) (p : Position) (i : Instruction) (slots : List Slot) where
  pub found_bind : (name : ℕ) (e : Expression) (v : ℤ) (new : List Slot) → i.operation ≡ o.Bind name e → value_at setting.tables slots (expression e) ≡ pure v → new ≡ with_slot (Some name) (Has v) slots
      → FoundBy setting f p i slots Next new
  found_bind name e v new is value put left children spawned into m s may found =
      subst (λ (xs : List Slot). IsPath setting (there setting f left slots p children spawned into m s) (topped Running (standing f left xs (next_of p) children spawned into) m s)) (sym put)
      (binds setting f left slots p children spawned into m s i found name e v is value)

  pub found_sync : i.operation ≡ o.Sync → FoundBy setting f p i slots Next slots
  found_sync is left children spawned into m s may found = syncs setting f left slots p children spawned into m s i found is (may refl).0

  pub found_return : (e : Expression) (v : ℤ) (new : List Slot) → i.operation ≡ o.Return e → value_at setting.tables slots (expression e) ≡ pure v → FoundBy setting f p i slots (Gave v) new
  found_return e v new is value left children spawned into m found = record {
    last = standing f left slots p children spawned into;
    way = λ s may. returns setting f left slots p children spawned into m s i found e v is value;
  }

  pub found_if : (e : Expression) (first second block : ℕ) (v : ℤ) (come : Found) → i.operation ≡ o.If e first second → value_at setting.tables slots (expression e) ≡ pure v
      → block ≡ (if int_eq v (pos 0) then second else first) → InsideBy setting.codes setting.tables f block slots come → FoundBy setting f p i slots come slots
  found_if e first second block v Nothing is value chosen h = tt
  found_if e first second block v Next is value chosen h = λ left children spawned into m s may found.
      passes setting f left slots p children spawned into m s i found e first second block v is value chosen h
  found_if e first second block v (Gave u) is value chosen h = λ left children spawned into m found. record {
    last = inside block p (standing f left slots p children spawned into);
    way = λ s may. gives_inside setting f left slots p children spawned into m s i found e first second block v is value chosen h.first u h.found h.gives;
  }

-- a block that begins with that statement
pub begins_with : (codes : List Code) (ts : Tables) (f block : ℕ) (slots : List Slot) (i : Instruction) (come : Found) → Some i ≡ instruction_inside codes f 1 (first_of block) → ReturnsBy ts i.operation slots come
    → InsideBy codes ts f block slots come
begins_with codes ts f block slots i Nothing found h = tt
begins_with codes ts f block slots i Next found h = absurd cc
begins_with codes ts f block slots i (Gave v) found h = record { first = i; found = found; gives = h }

-- ---- a call

-- an instance's slots, with those arguments
pub begun_by : (ts : Tables) (slots : List Slot) (size : ℕ) (es : List Linked) (vs : List ℤ) → values_at ts slots es ≡ pure vs → entry_at ts slots size es ≡ pure (slots_for size vs)
begun_by ts slots size es vs e = ap (mapped (slots_for size)) e

-- a called child of the topmost instance's procedure, which gives a value
module _ (setting : Setting) (s : PlainStrand) (name : Option ℕ) (w : Work) (f : ℕ) (args : List Slot) (room : HasRoomAbove s) (deep_enough : (s.top.left == 0) ≡ false) where
  abbrev pub child : PlainActivation
  child = child_of f args s

  abbrev pub with_child : PlainStrand
  with_child = pushed child false name w Running s

  above_child : HasRoomAbove with_child
  above_child = record {
    entry = λ n ns. ap (entry_by s.start) (append_assoc s.path ((s.top.children + 1) ∷ []) (n ∷ ns)) ∙ room.entry (s.top.children + 1) (n ∷ ns);
    own = λ n ns. ap (λ xs. is_own s.tally.opened (length xs)) (append_assoc s.path ((s.top.children + 1) ∷ []) (n ∷ ns)) ∙ room.own (s.top.children + 1) (n ∷ ns);
  }

  module _ (v : ℤ) (k n : PlainLayer) (gives : Gives setting child k v n) where
    abbrev pub back : PlainStrand
    back = record s { layer = n; top = bound name (Has v) (waiting false name w s.top); phase = Running }

    abbrev returned : PlainStrand
    returned = topped (Returning v) gives.last n with_child

    leaving : IsNext setting returned (topped (Leaving v) gives.last n with_child)
    leaving kit =
        sym (ap (λ c. if c then returned else if owns_top returned then closed setting v returned else in_phase (Leaving v) returned) (room.entry (s.top.children + 1) [])
        ∙ ap (λ c. if c then closed setting v returned else in_phase (Leaving v) returned) (room.own (s.top.children + 1) []))

    left_then : IsNext setting (topped (Leaving v) gives.last n with_child) back
    left_then kit = ap (λ xs. record back { path = xs }) (sym (path_back s.path (s.top.children + 1)))

    pub comes_back : IsPath setting (topped Running child k with_child) back
    comes_back =
        on (topped (Leaving v) gives.last n with_child) back (on returned (topped (Leaving v) gives.last n with_child) (gives.way with_child (λ _. (room.entry (s.top.children + 1) [], above_child))) leaving) left_then

-- the next statement of an instance of a procedure calls another one
module _ (setting : Setting) (f left : ℕ) (slots : List Slot) (p : Position) (children : ℕ) (spawned : Bool) (into : Option ℕ) (m : PlainLayer) (s : PlainStrand) where
  abbrev pub caller : PlainStrand
  caller = topped Running (standing f left slots p children spawned into) m s

  module _ (name : Option ℕ) (args : List Slot) (room : HasRoomAbove s) (deep_enough : (left == 0) ≡ false) (v : ℤ) (k n : PlainLayer) (gives : Gives setting (made f args (Block (first_of 0)) (left - 1)) k v n)
      (i : Instruction) (es : List Linked) (found : Some i ≡ instruction_inside setting.codes f 0 p) (memo : memo_of setting.codes f ≡ false)
      (enters : (kit : Bool) → performed setting kit p i.number i.operation caller ≡ called setting kit i.number Call name (Block (next_of p)) f es slots caller)
      (value : entry_at setting.tables slots (slots_of setting.codes f) es ≡ pure args) (layer : k ≡ entering f (depth_limit - (left - 1)) m) where
    abbrev start : PlainStrand
    start = topped Running (made f args (Block (first_of 0)) (left - 1)) k (pushed (made f args (Block (first_of 0)) (left - 1)) false name (Block (next_of p)) Running caller)

    entered_by : (kit : Bool) → start ≡ called setting kit i.number Call name (Block (next_of p)) f es slots caller
    entered_by kit =
        let next = λ (b : Bool) (xs : List Slot) (z : PlainStrand). if z.top.left == 0 then faulted i.number TooDeep z else started_as setting kit b (pushed (child_of f xs z) false name (Block (next_of p)) Entering z) in
        ap (λ (l : PlainLayer). topped Running (made f args (Block (first_of 0)) (left - 1)) l (pushed (made f args (Block (first_of 0)) (left - 1)) false name (Block (next_of p)) Running caller)) layer
        ∙ sym (ap (λ (b : Bool). if b then faulted i.number TooDeep caller else started_as setting kit false (pushed (child_of f args caller) false name (Block (next_of p)) Entering caller)) deep_enough)
        ∙ sym (ap (λ (l : PlainLayer). next false args (topped Running (standing f left slots p children spawned into) l s)) (noting_none m))
        ∙ sym (ap (λ x. evaluated i.number x (next false) caller) value)
        ∙ sym (ap (λ b. evaluated i.number (entry_at setting.tables slots (slots_of setting.codes f) es) (next b) caller) memo)
        ∙ sym (ap (λ b. called_as setting kit b i.number Call name (Block (next_of p)) f es slots caller) memo)

    pub calls_it : IsPath setting caller (topped Running (standing f left (with_slot name (Has v) slots) (next_of p) (children + 1) false name) n s)
    calls_it =
        path_join setting caller start (topped Running (standing f left (with_slot name (Has v) slots) (next_of p) (children + 1) false name) n s)
        (on caller start here (λ kit. entered_by kit ∙ sym (enters kit) ∙ ap (λ x. gone_by setting kit p x caller) found))
        (comes_back setting caller name (Block (next_of p)) f args (record { entry = room.entry; own = room.own }) deep_enough v k n gives)

-- ---- an instance that has come so far

module _ (setting : Setting) (a : PlainActivation) (start : PlainLayer) (f : ℕ) (slots : List Slot) (p : Position) (m : PlainLayer) (come : Comes setting a start f slots p m) (i : Instruction) (found : Some i ≡ instruction_inside setting.codes f 0 p) where
  pub comes_next : (new : List Slot) → FoundBy setting f p i slots Next new → Comes setting a start f new (next_of p) m
  comes_next new next = record {
    children = come.children;
    spawned = come.spawned;
    into = come.into;
    way = λ s may. path_join setting (topped Running a start s) (topped Running (standing f a.left slots p come.children come.spawned come.into) m s) (topped Running (standing f a.left new (next_of p) come.children come.spawned come.into) m s)
        (come.way s may) (next a.left come.children come.spawned come.into m s may found);
  }

  pub comes_gave : (v : ℤ) (new : List Slot) → FoundBy setting f p i slots (Gave v) new → Gives setting a start v m
  comes_gave v new gave =
      let g = gave a.left come.children come.spawned come.into m found in
      record {
        last = g.last;
        way = λ s may. path_join setting (topped Running a start s) (topped Running (standing f a.left slots p come.children come.spawned come.into) m s) (topped (Returning v) g.last m s) (come.way s may) (g.way s may);
      }

  pub comes_called : (op : Operation) (name : Option ℕ) (way : Way) (callee : ℕ) (es : List Linked) (args : List Slot) (v : ℤ) (k n : PlainLayer) → i.operation ≡ op
      → ((kit : Bool) (z : PlainStrand) → performed setting kit p i.number op z ≡ called setting kit i.number way name (Block (next_of p)) callee es z.top.slots z)
      → way ≡ Call → callee ≡ f → (a.left == 0) ≡ false → memo_of setting.codes f ≡ false → entry_at setting.tables slots (slots_of setting.codes f) es ≡ pure args
      → k ≡ entering f (depth_limit - (a.left - 1)) m → Gives setting (made f args (Block (first_of 0)) (a.left - 1)) k v n → Comes setting a start f (with_slot name (Has v) slots) (next_of p) n
  comes_called op name way callee es args v k n is does call own deep_enough memo value layer gives = record {
    children = come.children + 1;
    spawned = false;
    into = name;
    way = λ s may.
        let z = topped Running (standing f a.left slots p come.children come.spawned come.into) m s in
        path_join setting (topped Running a start s) z (topped Running (standing f a.left (with_slot name (Has v) slots) (next_of p) (come.children + 1) false name) n s) (come.way s may)
        (calls_it setting f a.left slots p come.children come.spawned come.into m s name args (may refl).1 deep_enough v k n gives i es found memo
        (λ kit. ap (λ x. performed setting kit p i.number x z) is ∙ does kit z ∙ ap (λ c. called setting kit i.number c name (Block (next_of p)) callee es slots z) call ∙ ap (λ g. called setting kit i.number Call name (Block (next_of p)) g es slots z) own)
        value layer);
  }

-- a body that ends gives 0 back
pub comes_over : (setting : Setting) (a : PlainActivation) (start : PlainLayer) (f : ℕ) (slots : List Slot) (p : Position) (m : PlainLayer) → Comes setting a start f slots p m → None ≡ instruction_inside setting.codes f 0 p → Gives setting a start (pos 0) m
comes_over setting a l f slots p m come none =
    let last = record (standing f a.left slots p come.children come.spawned come.into) { work = Over } in
    record {
      last = last;
      way = λ s may.
          on (topped Running last m s) (topped (Returning (pos 0)) last m s)
          (on (topped Running (standing f a.left slots p come.children come.spawned come.into) m s) (topped Running last m s) (come.way s may)
          (λ kit. ap (λ x. gone_by setting kit p x (topped Running (standing f a.left slots p come.children come.spawned come.into) m s)) none)) (λ kit. refl);
    }

-- ---- what is found of a call

module _ (c : PlainChecked) (tables : Tables) (records : List PlainRecord) (f left least : ℕ) (slots : List Slot) (way : Way) (callee : ℕ) (es : List Linked) (v : ℤ) (new : ℕ) (is : IsCalled c f left least slots way callee es v new) (size : length slots ≡ slots_of c.codes f) where
  abbrev pub over : Setting
  over = setting_with c tables [] records

  abbrev pub begun_slots : List Slot
  begun_slots = slots_for (slots_of c.codes f) is.numbers

  pub begun_with : entry_at tables slots (slots_of c.codes f) es ≡ pure begun_slots
  begun_with = begun_by tables slots (slots_of c.codes f) es is.numbers (is.values tables)

  pub is_given : (l : PlainLayer) → Gives over (made f begun_slots (Block (first_of 0)) (left - 1)) (deep f (min least (left - 1)) l) v (deep f new l)
  is_given l = subst (λ (k : ℕ). Gives over (made f (slots_for k is.numbers) (Block (first_of 0)) (left - 1)) (deep f (min least (left - 1)) l) v (deep f new l)) size (is.gives tables records l)

-- where an instance of the procedure has come so far
pub comes_found : (c : PlainChecked) (tables : Tables) (records : List PlainRecord) (a : PlainActivation) (start l : PlainLayer) (f least new : ℕ) (slots : List Slot) (p : Position) (i : Instruction) (op : Operation) (name : Option ℕ) (way : Way) (callee : ℕ) (es : List Linked) (v : ℤ)
    → Comes (setting_with c tables [] records) a start f slots p (deep f least l) → Some i ≡ instruction_inside c.codes f 0 p → i.operation ≡ op
    → ((kit : Bool) (z : PlainStrand) → performed (setting_with c tables [] records) kit p i.number op z ≡ called (setting_with c tables [] records) kit i.number way name (Block (next_of p)) callee es z.top.slots z)
    → IsCalled c f a.left least slots way callee es v new → length slots ≡ slots_of c.codes f → memo_of c.codes f ≡ false
    → Comes (setting_with c tables [] records) a start f (with_slot name (Has v) slots) (next_of p) (deep f new l)
comes_found c tables records a start l f least new slots p i op name way callee es v come found is does called_so size memo =
    comes_called (setting_with c tables [] records) a start f slots p (deep f least l) come i found op name way callee es (begun_slots c tables records f a.left least slots way callee es v new called_so size) v
    (deep f (min least (a.left - 1)) l) (deep f new l) is does called_so.call called_so.own called_so.room memo
    (begun_with c tables records f a.left least slots way callee es v new called_so size) (sym (deep_twice f least (a.left - 1) l)) (is_given c tables records f a.left least slots way callee es v new called_so size l)

-- ---- the slots of an instance that begins

pub values_are : (ts : Tables) (slots : List Slot) (es : List Linked) (vs : List ℤ) → AreValues slots es vs → values_at ts slots es ≡ pure vs
values_are ts slots [] [] h = refl
values_are ts slots [] (v ∷ vs) h = absurd cc
values_are ts slots (e ∷ es) [] h = absurd cc
values_are ts slots (e ∷ es) (v ∷ vs) h =
    ap (λ (q : NumberedOut ℤ). q >>= (λ x. mapped (λ xs. x ∷ xs) (values_at ts slots es))) (h.0 ts) ∙ ap (λ (q : NumberedOut (List ℤ)). mapped (λ xs. v ∷ xs) q) (values_are ts slots es vs h.1)

values_more : (slots : List Slot) (es : List Linked) (vs : List ℤ) (e : Linked) (v : ℤ) → AreValues slots es vs → ((all : Tables) → value_at all slots e ≡ pure v) → AreValues slots (es ++ e ∷ []) (vs ++ v ∷ [])
values_more slots [] [] e v h one = (one, tt)
values_more slots [] (u ∷ vs) e v h one = absurd cc
values_more slots (d ∷ es) [] e v h one = absurd cc
values_more slots (d ∷ es) (u ∷ vs) e v h one = (h.0, values_more slots es vs e v h.1 one)

-- as many
values_count : (slots : List Slot) (es : List Linked) (vs : List ℤ) → AreValues slots es vs → length vs ≡ length es
values_count slots [] [] h = refl
values_count slots [] (v ∷ vs) h = absurd cc
values_count slots (e ∷ es) [] h = absurd cc
values_count slots (e ∷ es) (v ∷ vs) h = ap suc (values_count slots es vs h.1)

laid_more : (vs : List ℤ) (xs : List Slot) (v : ℤ) → slice_set (laid_over vs xs) (length vs) (Has v) ≡ laid_over (vs ++ v ∷ []) xs
laid_more [] [] v = refl
laid_more [] (x ∷ xs) v = refl
laid_more (u ∷ vs) [] v = refl
laid_more (u ∷ vs) (x ∷ xs) v = ap (λ (ys : List Slot). Has u ∷ ys) (laid_more vs xs v)

-- the first expressions, and the next one
take_next : (xs : List Expression) (i : ℕ) (e : Expression) → slice_get xs i ≡ Some e → take (suc i) xs ≡ take i xs ++ e ∷ []
take_next [] i e there_is = absurd cc
take_next (x ∷ xs) zero e there_is =
    let same : x ≡ e = cc in
    ap (λ (y : Expression). y ∷ []) same
take_next (x ∷ xs) (suc i) e there_is = ap (λ (ys : List Expression). x ∷ ys) (take_next xs i e there_is)

taken_count : (xs : List Expression) (i : ℕ) (e : Expression) → slice_get xs i ≡ Some e → length (map expression (take i xs)) ≡ i
taken_count [] i e there_is = absurd cc
taken_count (x ∷ xs) zero e there_is = refl
taken_count (x ∷ xs) (suc i) e there_is = ap suc (taken_count xs i e there_is)

-- one argument more
pub begun_more : (slots : List Slot) (xs : List Expression) (i : ℕ) (e : Expression) (v : ℤ) (old window : List Slot) → IsBegun slots (map expression (take i xs)) old window → slice_get xs i ≡ Some e
    → ((all : Tables) → value_at all slots (expression e) ≡ pure v) → IsBegun slots (map expression (take (i + 1) xs)) old (slice_set window i (Has v))
begun_more slots xs i e v old window so_far there_is one =
    let count : length so_far.numbers ≡ i = values_count slots (map expression (take i xs)) so_far.numbers so_far.values ∙ taken_count xs i e there_is in
    let more : map expression (take (i + 1) xs) ≡ map expression (take i xs) ++ expression e ∷ [] =
    ap (λ k. map expression (take k xs)) (add-one i) ∙ ap (λ (ys : List Expression). map expression ys) (take_next xs i e there_is) ∙ map-append expression (take i xs) (e ∷ []) in
    record {
      numbers = so_far.numbers ++ v ∷ [];
      values = subst (λ (es : List Linked). AreValues slots es (so_far.numbers ++ v ∷ [])) (sym more) (values_more slots (map expression (take i xs)) so_far.numbers (expression e) v so_far.values one);
      laid = ap (λ (ys : List Slot). slice_set ys i (Has v)) so_far.laid ∙ ap (λ (k : ℕ). slice_set (laid_over so_far.numbers old) k (Has v)) (sym count) ∙ laid_more so_far.numbers old v;
    }

-- the first ones of some slots without values, with those numbers
laid_first : (vs : List ℤ) (size k : ℕ) → length vs ≤ size → size ≤ k → take size (laid_over vs (replicate k Unset)) ≡ slots_for size vs
laid_first [] zero k some few = refl
laid_first [] (suc m) k some few =
    let e : suc m - 0 ≡ suc m = omega arith in
    take-replicate (suc m) k Unset few ∙ sym (ap (λ (n : ℕ). replicate n Unset) e)
laid_first (v ∷ vs) zero k some few = absurd (omega (arith, some))
laid_first (v ∷ vs) (suc m) zero some few = absurd (omega (arith, few))
laid_first (v ∷ vs) (suc m) (suc k) some few =
    let less : length vs ≤ m = omega (arith, some) in
    let fewer : m ≤ k = omega (arith, few) in
    let e : suc m - suc (length (map Has vs)) ≡ m - length (map Has vs) = omega arith in
    ap (λ (ys : List Slot). Has v ∷ ys) (laid_first vs m k less fewer) ∙ sym (ap (λ (n : ℕ). Has v ∷ take m (map Has vs) ++ replicate n Unset) e)

pub begun_first : (slots : List Slot) (es : List Linked) (size : ℕ) (new : List Slot) (is : IsBegun slots es (replicate 8 Unset) new) → length es ≤ size → size ≤ 8 → take size new ≡ slots_for size is.numbers
begun_first slots es size new is some few =
    let count : length is.numbers ≡ length es = values_count slots es is.numbers is.values in
    let enough : length is.numbers ≤ size = omega (arith, count, some) in
    ap (λ (ys : List Slot). take size ys) is.laid ∙ laid_first is.numbers size 8 enough few

pub is_called : (c : PlainChecked) (f left least : ℕ) (slots : List Slot) (way : Way) (callee : ℕ) (es : List Linked) (numbers : List ℤ) (after : ℕ) (res : Option ℤ)
    → way ≡ Call → callee ≡ f → (left == 0) ≡ false → ((all : Tables) → values_at all slots es ≡ pure numbers)
    → IfSome res (λ v. (tables : Tables) (records : List PlainRecord) (l : PlainLayer)
    → Gives (setting_with c tables [] records) (begun f (left - 1) (slots_for (length slots) numbers)) (deep f (min least (left - 1)) l) v (deep f after l))
    → IfSome res (λ v. IsCalled c f left least slots way callee es v after)
is_called c f left least slots way callee es numbers after None call own room values gives = tt
is_called c f left least slots way callee es numbers after (Some v) call own room values gives = record { call = call; own = own; room = room; numbers = numbers; values = values; gives = gives }
