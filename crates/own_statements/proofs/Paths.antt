-- Many small steps: one behind another.
use Rattle.std.proofs.Common.{◌≡◌, ◌≤◌, arith, ℕ, ℤ, pos, Bool, List, [], ◌∷◌, length, nat_lt, if◌then◌else◌, true, false, take, Option, Some, None, Err, refl, sym, ap, ◌∙◌, subst, slice_get}
use Rattle.evaluation.specs.declared.slot.Slot.{Slot}
use Rattle.evaluation.specs.declared.note.Note.{Note}
use Rattle.evaluation.specs.declared.stop.Stop.{Stop}
use Rattle.evaluation.specs.declared.stop.Stop.TheVariants.{NoMemory, Fault}
use Rattle.evaluation.specs.Values.{NumberedOut}
use Rattle.linked_program.specs.declared.code.Instruction.{Instruction}
use Rattle.linked_program.specs.declared.code.Code.{Code}
use Rattle.positions.specs.declared.work.Position.{Position}
use Rattle.positions.specs.declared.work.Work.{Work}
use Rattle.positions.specs.declared.work.Work.TheVariants.{Block, Over}
use Rattle.linked_program.specs.CodeView.{instruction_at}
use Rattle.positions.specs.Code.{instruction_inside, blocks_at}
use Rattle.positions.specs.declared.phase.Phase.TheVariants.{Running, Returning}
use Rattle.positions.specs.Setting.{Setting}
use Rattle.positions.specs.Activations.{PlainActivation, outside, outside_by, inside, first_of, at, next_of}
use Rattle.positions.specs.Layers.{PlainLayer, noting}
use Rattle.positions.specs.Strands.{PlainStrand}
use Rattle.positions.specs.Advance.{performed, gone_by, worked, advanced}
use Rattle.layers.specs.Ends.{HasNoted}
use Rattle.layers.proofs.Kept.{first_kept, take_all}
use Rattle.own_statements.specs.declared.statements.Did.{Did}
use Rattle.own_statements.specs.declared.statements.Did.TheVariants.{Nothing, Next, Moved, Gave}
use Rattle.own_statements.specs.declared.statements.Chosen.{Chosen}
use Rattle.own_statements.specs.declared.statements.Chosen.TheVariants as chosen
use Rattle.own_statements.specs.declared.ran.Ran.{Ran}
use Rattle.own_statements.specs.declared.ran.Ran.TheVariants.{On, Stopped}
use Rattle.own_statements.specs.declared.ran.Ran.TheVariants as r
use Rattle.own_statements.specs.declared.ran.Ended.{Ended}
use Rattle.own_statements.specs.declared.ran.Ended.TheVariants as e
use Rattle.own_statements.specs.Runs.{RunsTo, EndsBy, IsBlock}
use Rattle.own_statements.specs.Paths.{IsPath, here, on, stacked, topped, ComesTo, StopsBy, Chooses, Does}

-- readings that are forgotten again
pub forget_noted : (ns : List Note) (l m : PlainLayer) → m ≡ noting ns l → record m { notes = take (length l.notes) m.notes } ≡ l
forget_noted ns l m e = ap (λ (k : PlainLayer). record k { notes = take (length l.notes) k.notes }) e ∙ ap (λ xs. record l { notes = xs }) (first_kept l.keeps l.notes ns)

pub forget_stopped : {A B : Type 0} (view : B → A) (o : NumberedOut A) (l m : PlainLayer) (e : Stop) → HasNoted view o l m (Err e) → record m { notes = take (length l.notes) m.notes } ≡ l
forget_stopped view o l m (Fault k) h = forget_noted o.notes l m h.1
forget_stopped view o l m NoMemory h = ap (λ (k : PlainLayer). record k { notes = take (length l.notes) k.notes }) h ∙ ap (λ xs. record l { notes = xs }) (take_all l.notes)

-- what stands at a position, for two instances with the same procedure and the same blocks around
pub found_as : (codes : List Code) (a b : PlainActivation) (p : Position) → b.procedure ≡ a.procedure → b.outer ≡ a.outer
    → instruction_inside codes a.procedure (length a.outer) p ≡ instruction_inside codes b.procedure (length b.outer) p
found_as codes a b p procedure outer =
    ap (λ f. instruction_inside codes f (length a.outer) p) (sym procedure) ∙ ap (λ (ps : List Position). instruction_inside codes b.procedure (length ps) p) (sym outer)

pub block_found : (codes : List Code) (a : PlainActivation) (block f depth : ℕ) (xs : List Instruction) → f ≡ a.procedure → depth ≡ length a.outer
    → ((index : ℕ) → slice_get xs index ≡ instruction_inside codes f depth (record { block = block; index = index })) → IsBlock codes a block xs
block_found codes a block f depth xs procedure around found index =
    found index ∙ ap (λ g. instruction_inside codes g depth (record { block = block; index = index })) procedure ∙ ap (λ d. instruction_inside codes a.procedure d (record { block = block; index = index })) around

-- a block in which there is nothing ends where it begins, however many blocks are around it
none_inside : (b : Bool) (o : Option Instruction) → o ≡ None → None ≡ (if b then o else None)
none_inside true o none = sym none
none_inside false o none = refl

-- an instance in no block, which has nothing left to do, is behind its block
over_by : (a : PlainActivation) (outer : List Position) (w : Work) → length outer ≡ 0 → w ≡ Over
    → record a { outer = outer; work = w } ≡ outside_by outer (record a { outer = outer; work = w })
over_by a [] w none over = ap (λ (v : Work). record a { outer = []; work = v }) over
over_by a (p ∷ rest) w none over = cc

pub over_outside : (a : PlainActivation) → length a.outer ≡ 0 → a.work ≡ Over → a ≡ outside a
over_outside a none over = over_by a a.outer a.work none over

module _ (setting : Setting) where
  -- one path behind another
  pub path_join : (s t u : PlainStrand) → IsPath setting s t → IsPath setting t u → IsPath setting s u
  path_join s t u p here = p
  path_join s t u p (on v w q e) = on v w (path_join s t v p q) e

  -- ---- the statements of an instance, in whatever strand

  -- two meanings that say the same of the instance
  pub does_as : (passes : Bool) (p : Position) (f g : Bool → PlainStrand → PlainStrand) (a : PlainActivation) (l : PlainLayer) (did : Did) (b : PlainActivation) (m : PlainLayer)
      → ((kit : Bool) (s : PlainStrand) → f kit (topped Running (at (Block p) a) l s) ≡ g kit (topped Running (at (Block p) a) l s)) → Does passes p f a l did b m → Does passes p g a l did b m
  does_as passes p f g a l Nothing b m e h = h
  does_as passes p f g a l Next b m e h = λ s may kit. h s may kit ∙ e kit s
  does_as passes p f g a l Moved b m e h = λ s may kit. h s may kit ∙ e kit s
  does_as passes p f g a l (Gave v) b m e h = λ s may kit. h s may kit ∙ e kit s

  -- the same of a choice
  pub chooses_as : (passes : Bool) (p : Position) (second : ℕ) (f g : Bool → PlainStrand → PlainStrand) (a : PlainActivation) (l : PlainLayer) (c : Chosen) (b : PlainActivation) (m : PlainLayer)
      → ((kit : Bool) (s : PlainStrand) → f kit (topped Running (at (Block p) a) l s) ≡ g kit (topped Running (at (Block p) a) l s)) → Chooses passes p second f a l c b m → Chooses passes p second g a l c b m
  chooses_as passes p second f g a l chosen.Nothing b m e h = h
  chooses_as passes p second f g a l chosen.Passed b m e h = λ s may kit. h s may kit ∙ e kit s
  chooses_as passes p second f g a l chosen.Inside b m e h = λ s may kit. h s may kit ∙ e kit s

  -- an instance goes behind its block, whatever it has left
  outside_at : (w : Work) (left children procedure : ℕ) (slots : List Slot) (outer : List Position) (v : Work) (spawned : Bool) (into : Option ℕ)
      → outside (record { left = left; children = children; procedure = procedure; slots = slots; outer = outer; work = w; spawned = spawned; into = into })
      ≡ outside (record { left = left; children = children; procedure = procedure; slots = slots; outer = outer; work = v; spawned = spawned; into = into })
  outside_at w left children procedure slots [] v spawned into = refl
  outside_at w left children procedure slots (p ∷ rest) v spawned into = refl

  module _ (passes : Bool) (a : PlainActivation) (l : PlainLayer) where
    -- one stretch behind another
    pub come_join : (b : PlainActivation) (m : PlainLayer) (given : Option ℤ) (c : PlainActivation) (n : PlainLayer) → ComesTo setting passes a l None b m → ComesTo setting passes b m given c n → ComesTo setting passes a l given c n
    come_join b m given c n h k s may = path_join (topped Running a l s) (topped Running b m s) _ (h s may) (k s may)

    -- and one in which it stops under others
    pub stop_join : (b : PlainActivation) (m : PlainLayer) (k : ℕ) (c : PlainActivation) (ys : List PlainActivation) (n : PlainLayer) → ComesTo setting passes a l None b m → StopsBy setting passes b m k c ys n → StopsBy setting passes a l k c ys n
    stop_join b m k c ys n h stop = (stop.0, λ s may. path_join (topped Running a l s) (topped Running b m s) (stacked k c ys n s) (h s may) (stop.1 s may))

    -- or under none
    pub stop_here : (c : PlainActivation) (ys : List PlainActivation) (n : PlainLayer) → ComesTo setting passes a l None c n → StopsBy setting passes a l 0 c ys n
    stop_here c ys n h = (omega arith, h)

    -- and what came of the last one
    pub run_join : (b : PlainActivation) (m : PlainLayer) (ran : Ran) (c : PlainActivation) (ys : List PlainActivation) (n : PlainLayer) → ComesTo setting passes a l None b m → RunsTo setting passes b m ran c ys n → RunsTo setting passes a l ran c ys n
    run_join b m (On p xs) c ys n h k = (come_join b m None (at (Block p) c) n h k.0, k.1)
    run_join b m (r.Gave v) c ys n h k = come_join b m (Some v) c n h k
    run_join b m (Stopped k) c ys n h stop = stop_join b m k c ys n h stop

    pub end_join : (b : PlainActivation) (m : PlainLayer) (ended : Ended) (c : PlainActivation) (ys : List PlainActivation) (n : PlainLayer) → ComesTo setting passes a l None b m → EndsBy setting passes b m ended c ys n → EndsBy setting passes a l ended c ys n
    end_join b m (e.Gave v) c ys n h k = come_join b m (Some v) c n h k
    end_join b m (e.Stopped k) c ys n h stop = stop_join b m k c ys n h stop

    pub come_over : (b : PlainActivation) (m : PlainLayer) → ComesTo setting passes a l None b m → b.work ≡ Over → ComesTo setting passes a l (Some (pos 0)) b m
    come_over b m come over s may = on (topped Running b m s) (topped (Returning (pos 0)) b m s) (come s may) (λ kit. sym (ap (λ w. worked setting kit w (topped Running b m s)) over))

    -- a stretch within a block, so far
    module _ (p : Position) (b : PlainActivation) (m : PlainLayer) (come : ComesTo setting passes a l None (at (Block p) b) m) where
      -- the block's end
      pub come_out : (c : PlainActivation) → None ≡ instruction_inside setting.codes b.procedure (length b.outer) p → c ≡ outside b → ComesTo setting passes a l None c m
      come_out c found is s may =
          let x = topped Running (at (Block p) b) m s in
          let same : topped Running c m s ≡ topped Running (outside (at (Block p) b)) m s = ap (λ (y : PlainActivation). topped Running y m s) (is ∙ outside_at b.work b.left b.children b.procedure b.slots b.outer (Block p) b.spawned b.into) in
          on x (topped Running c m s) (come s may) (λ kit. same ∙ ap (λ o. gone_by setting kit p o x) found)

      module _ (i : Instruction) (found : Some i ≡ instruction_inside setting.codes b.procedure (length b.outer) p) (c : PlainActivation) (n : PlainLayer) where
        abbrev pub meaning_there : Bool → PlainStrand → PlainStrand
        meaning_there kit = performed setting kit p i.number i.operation

        -- the meaning of the statement there is the next small step
        is_step : (kit : Bool) (s : PlainStrand) → meaning_there kit (topped Running (at (Block p) b) m s) ≡ advanced setting kit (topped Running (at (Block p) b) m s)
        is_step kit s = ap (λ o. gone_by setting kit p o (topped Running (at (Block p) b) m s)) found

        pub come_next : Does passes p meaning_there b m Next c n → ComesTo setting passes a l None (at (Block (next_of p)) c) n
        come_next h s may = on (topped Running (at (Block p) b) m s) (topped Running (at (Block (next_of p)) c) n s) (come s may) (λ kit. h s may kit ∙ is_step kit s)

        pub come_passed : (block : ℕ) → instruction_at setting.codes c.procedure block 0 ≡ None → Chooses passes p block meaning_there b m chosen.Passed c n → ComesTo setting passes a l None (at (Block (next_of p)) c) n
        come_passed block none h s may =
            let x = topped Running (inside block p c) n s in
            let gone_in : IsPath setting (topped Running a l s) x = on (topped Running (at (Block p) b) m s) x (come s may) (λ kit. h s may kit ∙ is_step kit s) in
            let ends : None ≡ instruction_inside setting.codes c.procedure (length (next_of p ∷ c.outer)) (first_of block) =
            none_inside (nat_lt (length (next_of p ∷ c.outer)) (length (blocks_at setting.codes c.procedure))) (instruction_at setting.codes c.procedure block 0) none in
            on x (topped Running (at (Block (next_of p)) c) n s) gone_in (λ kit. ap (λ o. gone_by setting kit (first_of block) o x) ends)

        pub come_inside : (block : ℕ) → Chooses passes p block meaning_there b m chosen.Inside c n → ComesTo setting passes a l None c n
        come_inside block h s may = on (topped Running (at (Block p) b) m s) (topped Running c n s) (come s may) (λ kit. h s may kit ∙ is_step kit s)

        pub come_moved : Does passes p meaning_there b m Moved c n → ComesTo setting passes a l None c n
        come_moved h s may = on (topped Running (at (Block p) b) m s) (topped Running c n s) (come s may) (λ kit. h s may kit ∙ is_step kit s)

        pub come_gave : (v : ℤ) → Does passes p meaning_there b m (Gave v) c n → ComesTo setting passes a l (Some v) (at (Block p) c) n
        come_gave v h s may = on (topped Running (at (Block p) b) m s) (topped (Returning v) (at (Block p) c) n s) (come s may) (λ kit. h s may kit ∙ is_step kit s)

        pub come_none : Does passes p meaning_there b m Nothing c n → ComesTo setting passes a l None (at (Block p) c) n
        come_none h s may =
            subst (λ (y : PlainActivation). IsPath setting (topped Running a l s) (topped Running (at (Block p) y) n s)) (sym h.0)
            (subst (λ (z : PlainLayer). IsPath setting (topped Running a l s) (topped Running (at (Block p) b) z s)) (sym h.1) (come s may))
