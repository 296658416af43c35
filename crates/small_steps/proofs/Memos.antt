-- Memo instances that are entered, and layers that close.
use Rattle.std.proofs.Common.{◌≡◌, ℕ, zero, suc, ◌-◌, ◌⊎◌, Bool, true, false, ℤ, List, [], ◌∷◌, ◌++◌, reverse, Option, Some, None, Result, Ok, Err, OnOk, sym, ap, ◌∙◌, subst, inl, inr, arith}
use Rattle.std.proofs.lemmas.List.{reverse-append}
use Rattle.monoid_laws.specs.declared.Kind.{Kind}
use Rattle.meaning.specs.Elision.{depth_limit}
use Rattle.linked_program.specs.CodeView.{memo_of}
use Rattle.record_theory.specs.Record.{PlainRecord}
use Rattle.record_theory.specs.Named.{AreValuesFrom, HaveValues}
use Rattle.record_theory.proofs.Singles.{valid_values}
use Rattle.positions.specs.declared.work.Position.{Position}
use Rattle.positions.specs.declared.work.Work.TheVariants.{Block}
use Rattle.positions.specs.declared.phase.Phase.TheVariants.{Leaving}
use Rattle.positions.specs.Setting.{Setting}
use Rattle.positions.specs.Layers.{PlainLayer, covered, closed_onto, below_top}
use Rattle.positions.specs.Tallies.{PlainTally, closing}
use Rattle.positions.specs.Strands.{PlainStrand}
use Rattle.positions.specs.Advance.{record_for, answer_for, recalled, opened, passed, closed, started, started_by, started_as}
use Rattle.small_steps.specs.Steps.{HoldsBy}

-- ---- the record that answers is one of the records

module _ (setting : Setting) where
  record_values : (ks : List Kind) (depth procedure : ℕ) (arguments : List ℤ) (r : PlainRecord) → HaveValues ks setting.records → Some r ≡ record_for setting depth procedure arguments → AreValuesFrom 0 ks r.contribution
  record_values ks zero procedure arguments r h e = absurd cc
  record_values ks (suc d) procedure arguments r h e = valid_values setting.program.revisions setting.tables ks (suc d) procedure arguments setting.records r (omega arith) h e

  pub answer_values : (s : PlainStrand) (r : PlainRecord) (ks : List Kind) → s.layer.kinds ≡ ks → HaveValues ks setting.records → Some r ≡ answer_for setting s → AreValuesFrom 0 s.layer.kinds r.contribution
  answer_values s r ks e h f = subst (λ cs. AreValuesFrom 0 cs r.contribution) (sym e) (record_values ks (depth_limit - s.top.left) s.top.procedure s.arguments r h f)

  -- ---- instances that no record answers

  begun_anew : (lacks none : Type 0) (s new : PlainStrand) → ((lacks → ⊥) → new ≡ opened setting s) → (none → new ≡ passed s) → (new ≡ opened setting s) ⊎ (new ≡ passed s)
      → HoldsBy lacks none (λ kit. new ≡ recalled setting kit None s)
  begun_anew lacks none s new f h (inl e) = record { kit = true; done = e; with_kit = f; without_kit = h }
  begun_anew lacks none s new f h (inr e) = record { kit = false; done = e; with_kit = f; without_kit = h }

  pub anew_on : {A E : Type 0} (lacks none : Type 0) (s new : PlainStrand) (r : Option PlainRecord) (res : Result A E) → None ≡ r
      → OnOk res ((lacks → ⊥) → new ≡ opened setting s) → OnOk res (none → new ≡ passed s) → OnOk res ((new ≡ opened setting s) ⊎ (new ≡ passed s))
      → OnOk res (HoldsBy lacks none (λ kit. new ≡ recalled setting kit r s))
  anew_on lacks none s new r (Ok a) e f h i = subst (λ q. HoldsBy lacks none (λ kit. new ≡ recalled setting kit q s)) e (begun_anew lacks none s new f h i)
  anew_on lacks none s new r (Err b) e f h i = tt

  -- a memo instance is entered
  pub started_memo : (kit : Bool) (s : PlainStrand) (p : Position) → s.top.work ≡ Block p → memo_of setting.codes s.top.procedure ≡ true → recalled setting kit (answer_for setting s) s ≡ started setting kit s
  started_memo kit s p e m = sym (ap (λ w. started_by setting kit w s) e ∙ ap (λ b. started_as setting kit b s) m)

  -- ---- layers that close

  pub closed_popped : (s : PlainStrand) (items rest : List PlainLayer) (outer new : PlainLayer) (t : PlainTally) (v w : ℤ) → s.lower ≡ reverse items → items ≡ rest ++ outer ∷ [] → new ≡ covered outer s.layer
      → t ≡ closing setting.program.revisions s.layer w s.tally → w ≡ v → record s { layer = new; lower = reverse rest; phase = Leaving w; tally = t } ≡ closed setting v s
  closed_popped s items rest outer new t v w e f n c i =
      let down : s.lower ≡ outer ∷ reverse rest = e ∙ ap reverse f ∙ reverse-append rest (outer ∷ []) in
      ap (λ l. record s { layer = l; lower = reverse rest; phase = Leaving w; tally = t }) n
      ∙ ap (λ u. record s { layer = covered outer s.layer; lower = reverse rest; phase = Leaving w; tally = u }) c
      ∙ ap (λ x. record s { layer = covered outer s.layer; lower = reverse rest; phase = Leaving x; tally = closing setting.program.revisions s.layer x s.tally }) i
      ∙ ap (λ ls. record s { layer = closed_onto s.layer ls; lower = below_top ls; phase = Leaving v; tally = closing setting.program.revisions s.layer v s.tally }) (sym down)
