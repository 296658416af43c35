use Rattle.std.proofs.Common.{rules, ◌≡◌, ◌≤◌, ◌<◌, ◌+◌, ℕ, suc, List, None, IfNone, length, length-set, refl, sym, ◌∙◌, ap, get_or, subst, arith}
use Rattle.meaning.specs.Tables.{Tables}
use Rattle.record_theory.specs.InStep.{IsInStep}
use Rattle.rerun_records.specs.Line.{AreBefore, IsKnown}
use Rattle.rerun_records.specs.Covers.{AreApart}
use Rattle.record_numbers.specs.Stale.{most_number}
use Rattle.record_theory.specs.Numbers.{number_then, with_numbers}
use Rattle.rerun_records.proofs.NumbersAt.{told_to, told_all, told_one, told_apart, small_set, known_at, same_but}
use Rattle.rerun_records.proofs.telling.tell_from.Goals as goal

pub loop-place-init : goal.loop-place-init
loop-place-init c =
    let numbers = c.args.numbers.now in
    let list = c.args.list.now in
    let place = c.args.place in
    let lost = c.args.edit.lost.now in
    let won = c.args.edit.won.now in
    let number = c.told_next-number.result in
    let there : place < length list = c.requires.within in
    let many = c.requires.places in
    let has_number : place < length numbers = omega (arith, there, many) in
    let before : (i : ℕ) → get_or numbers i 0 ≤ most_number = λ i. (let fits = c.type_inv.numbers i in search rules) in
    let small : number ≤ most_number = search rules in
    let next : place + 1 ≡ suc place = omega arith in
    let numbered = c.renumber.ensures.numbered in
    let is_then : (tables : Tables) → IsInStep tables (with_numbers numbers list) → AreBefore tables lost won → number ≡ number_then lost won (get_or numbers place 0) c.index-list-place.result.reads = λ tables step before.
    c.told_next-number.ensures.told tables before
    (subst (IsKnown tables (get_or numbers place 0)) (sym c.reads-reads.ensures.reads) (known_at tables numbers list place (get_or numbers place 0) c.index-list-place.result has_number there c.index-list-place.is refl step))
    ∙ ap (number_then lost won (get_or numbers place 0)) c.reads-reads.ensures.reads in
    record {
      within = omega (arith, there);
      places = ap length numbered ∙ length-set numbers place number ∙ many;
      small = subst (λ (ns : List ℕ). (i : ℕ) → get_or ns i 0 ≤ most_number) (sym numbered) (small_set numbers place number small before);
      same = λ p less. subst (λ (ns : List ℕ). get_or ns p 0 ≡ get_or numbers p 0) (sym numbered) (same_but numbers numbers place number p less refl);
      told = λ tables step known.
          ap (λ ns. told_to lost won place ns list) numbered
          ∙ told_one lost won place numbers list number c.index-list-place.result has_number there (is_then tables step known) c.index-list-place.is
          ∙ ap (λ k. told_to lost won k numbers list) (sym next)
          ∙ told_apart c.args.edit.change.now lost won (place + 1) (length list) numbers list c.requires.rest before (omega (arith, there)) c.requires.apart
          ∙ told_all lost won numbers list many;
      fit = c.renumber.ensures.fit;
      settled = c.told_next-number.ensures.settled;
    }

pub loop-place-preserved : goal.loop-place-preserved
loop-place-preserved c =
    let l = c.loop-place in
    let list = c.args.list.now in
    let place = c.in-Some.place in
    let number = c.told_next-number-in-Some.result in
    let before = c.in-Some.ensures.before in
    let inside = l.invariant.within in
    let many = l.invariant.places in
    let there : place < length list = omega (arith, before, inside) in
    let has_number : place < length l.numbers = omega (arith, there, many) in
    let old_many = c.requires.places in
    let has_old : place < length c.args.numbers.now = omega (arith, there, old_many) in
    let small : number ≤ most_number = search rules in
    let next : place + 1 ≡ suc place = omega arith in
    let numbered = c.renumber-in-Some.ensures.numbered in
    record {
      within = omega (arith, there);
      places = ap length numbered ∙ length-set l.numbers place number ∙ many;
      small = subst (λ (ns : List ℕ). (i : ℕ) → get_or ns i 0 ≤ most_number) (sym numbered) (small_set l.numbers place number small l.invariant.small);
      same = λ p less. subst (λ (ns : List ℕ). get_or ns p 0 ≡ get_or c.args.numbers.now p 0) (sym numbered) (same_but l.numbers c.args.numbers.now place number p less (l.invariant.same p (omega (arith, less, before))));
      told = λ tables step known.
          ap (λ ns. told_to c.args.edit.lost.now c.args.edit.won.now place ns list) numbered
          ∙ told_one c.args.edit.lost.now c.args.edit.won.now place l.numbers list number c.index-list-place-in-Some.result has_number there
          (c.told_next-number-in-Some.ensures.told tables known
          (subst (IsKnown tables (get_or l.numbers place 0)) (sym c.reads.ensures.reads)
          (known_at tables c.args.numbers.now list place (get_or l.numbers place 0) c.index-list-place-in-Some.result has_old there c.index-list-place-in-Some.is (l.invariant.same place before) step))
          ∙ ap (number_then c.args.edit.lost.now c.args.edit.won.now (get_or l.numbers place 0)) c.reads.ensures.reads) c.index-list-place-in-Some.is
          ∙ ap (λ k. told_to c.args.edit.lost.now c.args.edit.won.now k l.numbers list) (sym next)
          ∙ told_apart c.args.edit.change.now c.args.edit.lost.now c.args.edit.won.now (place + 1) l.end l.numbers list c.requires.rest l.invariant.small (omega (arith, before)) c.in-Some.ensures.apart
          ∙ l.invariant.told tables step known;
      fit = c.renumber-in-Some.ensures.fit;
      settled = c.told_next-number-in-Some.ensures.settled;
    }

pub returns : goal.returns
returns c =
    let l = c.loop-place in
    let list = c.args.list.now in
    let none : c.next_touched.result ≡ None = search rules in
    let apart : AreApart list c.args.edit.change.now 0 l.end = subst (λ o. IfNone o (AreApart list c.args.edit.change.now 0 l.end)) none c.next_touched.ensures.none in
    record {
      told = λ tables step known.
          told_apart c.args.edit.change.now c.args.edit.lost.now c.args.edit.won.now 0 l.end l.numbers list c.requires.rest l.invariant.small (omega arith) apart ∙ l.invariant.told tables step known;
      places = l.invariant.places;
      fit = l.invariant.fit;
    }
