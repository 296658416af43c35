-- Parts of a loop's half that are put on the strand once the first iterations of the half are recorded, and a half that is recorded in one go.
use Rattle.std.proofs.Common.{◌≡◌, ◌∙◌, ℕ, suc, ◌+◌, ◌-◌, ◌/◌, ◌<◌, ◌≤◌, pos, true, false, List, [], ◌∷◌, ◌++◌, reverse, refl, sym, ap, subst, arith}
use Rattle.std.proofs.lemmas.List.{reverse-append}
use Rattle.positions.specs.declared.work.Loop.{Loop}
use Rattle.positions.specs.declared.work.Share.{Share}
use Rattle.positions.specs.declared.work.Work.{Work}
use Rattle.positions.specs.declared.work.Work.TheVariants.{Halves, Turns}
use Rattle.positions.specs.declared.phase.Phase.TheVariants.{Running, Leaving}
use Rattle.positions.specs.Setting.{Setting}
use Rattle.positions.specs.Activations.{PlainActivation, at}
use Rattle.positions.specs.Strands.{PlainStrand}
use Rattle.positions.specs.Advance.{left_of, right_of}
use Rattle.activations.specs.Turned.{turned_by}
use Rattle.answered_loops.specs.Answered.{is_by_turns, halved_to, ended_by, ended}
use Rattle.running_ahead.specs.Chains.{reach, IsClear, under}
use Rattle.running_ahead.specs.Stepped.{IsStepped, here}
use Rattle.running_ahead.specs.Leaves.{Gathered, gathering, gathered, AreRecorded}
use Rattle.running_ahead.specs.RecordedHalves.{halves_gathered, Arrives, HalfRecords}
use Rattle.running_ahead.proofs.Halving.{turns_ahead}
use Rattle.running_ahead.proofs.Stepping.{steps_join, steps_ahead}
use Rattle.running_ahead.proofs.ChainedHalves.{clear_above, grain_of, child_of_half, under_first, under_second, to_first, by_turns}
use Rattle.running_ahead.proofs.Stacked.{not_by_turns}
use Rattle.running_ahead.proofs.RecordedTurns.{AreRecordedAt, recorded_parted, clear_then, clear_amid, recorded_turns}
use Rattle.running_ahead.proofs.HalvesRecorded.{all_recorded, second_begins}

module _ (setting : Setting) (l : Loop) where
  -- the half isn't halved
  pub stays_recorded : (r k : ℕ) (h : Share) (a : PlainActivation) (s : PlainStrand) (x y : Gathered) (n : ℕ) → IsClear (gathering x s) → AreRecorded setting l a.procedure a.slots a.left h.first x n y
      → Arrives setting l r s k h a x y s.path s.below n k h a n
  stays_recorded r k h a s x y n clear those = record {
    between = x;
    steps = here;
    turns = those;
    clear = clear;
    number = refl;
    procedure = refl;
    slots = refl;
    left = refl;
  }

  module _ (r k : ℕ) (h : Share) (a : PlainActivation) (s : PlainStrand) (x y : Gathered) (n : ℕ) (clear : IsClear (gathering x s)) (fits : h.count ≤ reach (suc r) (grain_of setting l a)) (halved : grain_of setting l a < h.count)
      (those : AreRecorded setting l a.procedure a.slots a.left h.first x n y) where
    abbrev many : is_by_turns setting.codes a l (suc k) h.count ≡ false
    many = not_by_turns k h.count (grain_of setting l a) halved

    -- the next iteration is in the first half
    pub first_arrives : Arrives setting l r s (suc k) h a x y (s.path ++ (a.children + 1) ∷ []) (under_first setting l k h a ∷ s.below) n k (left_of h) (child_of_half setting l k (left_of h) a) n
    first_arrives = record {
      between = x;
      steps = steps_ahead setting (halves_gathered l (suc k) h a x s) (halves_gathered l k (left_of h) (child_of_half setting l k (left_of h) a) x (under (s.path ++ (a.children + 1) ∷ []) (under_first setting l k h a ∷ s.below) s))
          (to_first setting l k h a x.layer (gathering x s) many);
      turns = those;
      clear = clear_above (a.children + 1) (gathering x s) (under_first setting l k h a ∷ s.below) clear;
      number = refl;
      procedure = refl;
      slots = refl;
      left = refl;
    }

    -- or in the second one
    pub second_arrives : h.count / 2 ≤ n → Arrives setting l r s (suc k) h a x y (s.path ++ ((a.children + 1) + 1) ∷ []) (under_second setting l k h a ∷ s.below) n k (right_of h) (child_of_half setting l k (right_of h) a) (n - h.count / 2)
    second_arrives over =
        let sum : n ≡ h.count / 2 + (n - h.count / 2) = omega (arith, over) in
        let number : (h.first + h.count / 2) + (n - h.count / 2) ≡ h.first + n = omega (arith, over) in
        let parts : AreRecordedAt setting l a.procedure a.slots a.left h.first x (h.count / 2) (n - h.count / 2) y =
        recorded_parted setting l a.procedure a.slots a.left h.first x (h.count / 2) (n - h.count / 2) n y sum those in
        record {
          between = parts.between;
          steps = second_begins setting l r (all_recorded setting l r) k h a x s clear fits many parts.between parts.first;
          turns = parts.second;
          clear = clear_above ((a.children + 1) + 1) (gathering parts.between s) (under_second setting l k h a ∷ s.below)
              (clear_then setting l a.procedure a.slots a.left h.first x (h.count / 2) parts.between parts.first s clear);
          number = number;
          procedure = refl;
          slots = refl;
          left = refl;
        }

  -- one behind another
  arrivals_join : (r e : ℕ) (s : PlainStrand) (k : ℕ) (h : Share) (a : PlainActivation) (x y : Gathered) (path : List ℕ) (below : List PlainActivation) (m j : ℕ) (part : Share) (b : PlainActivation) (n : ℕ)
      (far : List ℕ) (deep : List PlainActivation) (i : ℕ) (small : Share) (c : PlainActivation) (o : ℕ)
      → (first : Arrives setting l r s k h a x y path below m j part b n) → Arrives setting l e (under path below s) j part b first.between y far deep n i small c o
      → Arrives setting l e s k h a x y far deep m i small c o
  arrivals_join r e s k h a x y path below m j part b n far deep i small c o first second = record {
    between = second.between;
    steps = steps_join setting (halves_gathered l k h a x s) (halves_gathered l j part b first.between (under path below s)) (halves_gathered l i small c second.between (under far deep s)) first.steps second.steps;
    turns = second.turns;
    clear = second.clear;
    number = second.number ∙ first.number;
    procedure = second.procedure ∙ first.procedure;
    slots = second.slots ∙ first.slots;
    left = second.left ∙ first.left;
  }

  -- the last part goes iteration by iteration, and its next one isn't recorded
  stopped_recorded : (s : PlainStrand) (k : ℕ) (h : Share) (a : PlainActivation) (x y : Gathered) (path : List ℕ) (below : List PlainActivation) (m j : ℕ) (part : Share) (b : PlainActivation) (n : ℕ)
      → Arrives setting l 0 s k h a x y path below m j part b n → part.count ≤ grain_of setting l b → n < part.count
      → IsStepped setting (halves_gathered l k h a x s) (gathered Running (turned_by n l part (at (Turns l part) b)) y (under path below s))
  stopped_recorded s k h a x y path below m j part b n reached few some =
      let z = under path below s in
      let w = reached.between in
      let one = at (Turns l part) b in
      let start = halves_gathered l k h a x s in
      let last = halves_gathered l j part b w z in
      let begun = gathered Running one w z in
      let done = gathered Running (turned_by n l part one) y z in
      let fits : n ≤ part.count = omega (arith, some) in
      let begins : IsStepped setting last begun = steps_ahead setting last begun (turns_ahead setting l j part last begun refl refl (by_turns setting l j part b few) refl) in
      steps_join setting start last done reached.steps (steps_join setting last begun done begins (recorded_turns setting l part one w n y reached.turns refl fits z (clear_amid w z reached.clear)))

-- ---- as lists of a strand's parts

module _ (setting : Setting) (l : Loop) (r : ℕ) (s : PlainStrand) (h : Share) (a : PlainActivation) (x y : Gathered) (m j : ℕ) (part : Share) (n : ℕ) where
  arrived_as : (k given : ℕ) (path new : List ℕ) (below now : List PlainActivation) (b c : PlainActivation) → given ≡ k → new ≡ path → now ≡ below → c ≡ b → Arrives setting l r s k h a x y path below m j part b n
      → Arrives setting l r s given h a x y new now m j part c n
  arrived_as k given path new below now b c e f g i reached =
      subst (λ (z : ℕ). Arrives setting l r s z h a x y new now m j part c n) (sym e)
      (subst (λ (xs : List ℕ). Arrives setting l r s k h a x y xs now m j part c n) (sym f)
      (subst (λ (xs : List PlainActivation). Arrives setting l r s k h a x y path xs m j part c n) (sym g)
      (subst (λ (z : PlainActivation). Arrives setting l r s k h a x y path below m j part z n) (sym i) reached)))

module _ (setting : Setting) (l : Loop) (r k given g : ℕ) (h : Share) (a : PlainActivation) (s : PlainStrand) (x y : Gathered) (n : ℕ) (path new : List ℕ) (old now : List PlainActivation) (b : PlainActivation) (deep : given ≡ suc k) (grain : g ≡ grain_of setting l a) (fits : h.count ≤ reach (suc r) g) (halved : g < h.count)
    (clear : IsClear (gathering x s)) (same_path : s.path ≡ path) (same_below : s.below ≡ reverse old) (those : AreRecorded setting l a.procedure a.slots a.left h.first x n y) where
  abbrev fits_here : h.count ≤ reach (suc r) (grain_of setting l a)
  fits_here = subst (λ (z : ℕ). h.count ≤ reach (suc r) z) grain fits

  abbrev halved_here : grain_of setting l a < h.count
  halved_here = subst (λ (z : ℕ). z < h.count) grain halved

  pub first_recorded : new ≡ path ++ (a.children + 1) ∷ [] → now ≡ old ++ under_first setting l k h a ∷ [] → b ≡ child_of_half setting l k (left_of h) a → Arrives setting l r s given h a x y new (reverse now) n k (left_of h) b n
  first_recorded e f is =
      let one = under_first setting l k h a in
      let below : reverse now ≡ one ∷ s.below = ap (λ (xs : List PlainActivation). reverse xs) f ∙ reverse-append old (one ∷ []) ∙ ap (λ (xs : List PlainActivation). one ∷ xs) (sym same_below) in
      arrived_as setting l r s h a x y n k (left_of h) n (suc k) given (s.path ++ (a.children + 1) ∷ []) new (one ∷ s.below) (reverse now) (child_of_half setting l k (left_of h) a) b
      deep (e ∙ ap (λ (xs : List ℕ). xs ++ (a.children + 1) ∷ []) (sym same_path)) below is (first_arrives setting l r k h a s x y n clear fits_here halved_here those)

  pub second_recorded : h.count / 2 ≤ n → new ≡ path ++ ((a.children + 1) + 1) ∷ [] → now ≡ old ++ under_second setting l k h a ∷ [] → b ≡ child_of_half setting l k (right_of h) a
      → Arrives setting l r s given h a x y new (reverse now) n k (right_of h) b (n - h.count / 2)
  second_recorded over e f is =
      let one = under_second setting l k h a in
      let below : reverse now ≡ one ∷ s.below = ap (λ (xs : List PlainActivation). reverse xs) f ∙ reverse-append old (one ∷ []) ∙ ap (λ (xs : List PlainActivation). one ∷ xs) (sym same_below) in
      arrived_as setting l r s h a x y n k (right_of h) (n - h.count / 2) (suc k) given (s.path ++ ((a.children + 1) + 1) ∷ []) new (one ∷ s.below) (reverse now) (child_of_half setting l k (right_of h) a) b
      deep (e ∙ ap (λ (xs : List ℕ). xs ++ ((a.children + 1) + 1) ∷ []) (sym same_path)) below is (second_arrives setting l r k h a s x y n clear fits_here halved_here those over)

-- nothing is put on top
pub arrived_here : (setting : Setting) (l : Loop) (r k : ℕ) (h : Share) (a : PlainActivation) (s : PlainStrand) (x y : Gathered) (n : ℕ) (path : List ℕ) (below : List PlainActivation) → IsClear (gathering x s) → s.path ≡ path → s.below ≡ below
    → AreRecorded setting l a.procedure a.slots a.left h.first x n y → Arrives setting l r s k h a x y path below n k h a n
arrived_here setting l r k h a s x y n path below clear e f those =
    arrived_as setting l r s h a x y n k h n k k s.path path s.below below a a refl (sym e) (sym f) refl (stays_recorded setting l r k h a s x y n clear those)

-- one level more, with one copy less
pub arrivals_more : (setting : Setting) (site now : Loop) → now ≡ site → (r n : ℕ) → n ≡ suc r → (s : PlainStrand) (k : ℕ) (h : Share) (a : PlainActivation) (x y : Gathered) (path : List ℕ) (below : List PlainActivation) (m j : ℕ) (part : Share) (b : PlainActivation) (o : ℕ)
    (far : List ℕ) (deep : List PlainActivation) (i : ℕ) (small : Share) (c : PlainActivation) (q : ℕ)
    → Arrives setting site n s k h a x y path below m j part b o
    → ((w : Gathered) → IsClear (gathering w (under path below s)) → AreRecorded setting now b.procedure b.slots b.left part.first w o y → Arrives setting now r (under path below s) j part b w y far deep o i small c q)
    → Arrives setting site r s k h a x y far deep m i small c q
arrivals_more setting site now same r n long s k h a x y path below m j part b o far deep i small c q given step =
    let first : Arrives setting now (suc r) s k h a x y path below m j part b o =
    subst (λ (z : ℕ). Arrives setting now z s k h a x y path below m j part b o) long (subst (λ (z : Loop). Arrives setting z n s k h a x y path below m j part b o) (sym same) given) in
    subst (λ (z : Loop). Arrives setting z r s k h a x y far deep m i small c q) same
    (arrivals_join setting now (suc r) r s k h a x y path below m j part b o far deep i small c q first (step first.between first.clear first.turns))

-- ---- a half, in whatever strand

module _ (setting : Setting) (l : Loop) (k : ℕ) (h : Share) (a : PlainActivation) (there : a.work ≡ Halves l k h) (x : Gathered) (path : List ℕ) (below : List PlainActivation) (r g : ℕ) (few : r ≤ 8) where
  begins : (s : PlainStrand) → halves_gathered l k h a x s ≡ gathered Running a x s
  begins s = ap (λ (w : Work). gathered Running (at w a) x s) (sym there)

  -- all iterations are recorded
  pub half_over : (b : PlainActivation) (y : Gathered) → g ≡ grain_of setting l a → h.count ≤ reach r g → is_by_turns setting.codes a l k h.count ≡ false → AreRecorded setting l a.procedure a.slots a.left h.first x h.count y → b ≡ halved_to a
      → HalfRecords setting true a x path below b y path below
  half_over b y grain fits halved those is s clear e f =
      let reached : h.count ≤ reach r (grain_of setting l a) = subst (λ (z : ℕ). h.count ≤ reach r z) grain fits in
      let top : ended setting.codes l k h a ≡ b = ap (λ c. ended_by c l h a) halved ∙ sym is in
      let over : IsStepped setting (halves_gathered l k h a x s) (gathered (Leaving (pos 0)) (ended setting.codes l k h a) y s) = all_recorded setting l r k h a x y s clear reached those in
      subst (λ (xs : List ℕ). IsStepped setting (gathered Running a x s) (gathered (Leaving (pos 0)) b y (under xs below s))) e
      (subst (λ (xs : List PlainActivation). IsStepped setting (gathered Running a x s) (gathered (Leaving (pos 0)) b y (under s.path xs s))) f
      (subst (λ (z : PlainStrand). IsStepped setting z (gathered (Leaving (pos 0)) b y s)) (begins s)
      (subst (λ (z : PlainActivation). IsStepped setting (halves_gathered l k h a x s) (gathered (Leaving (pos 0)) z y s)) top over)))

  -- the next one isn't
  pub half_stops : (new : List ℕ) (now : List PlainActivation) (n j : ℕ) (part : Share) (b : PlainActivation) (m : ℕ) → m < part.count → b.procedure ≡ a.procedure → g ≡ grain_of setting l a → part.count ≤ g → (c : PlainActivation) (y : Gathered)
      → ((s : PlainStrand) → IsClear (gathering x s) → s.path ≡ path → s.below ≡ below → Arrives setting l 0 s k h a x y new now n j part b m)
      → c ≡ turned_by m l part (at (Turns l part) b) → HalfRecords setting false a x path below c y new now
  half_stops new now n j part b m some procedure grain one c y reaches is s clear e f =
      let by_one : part.count ≤ grain_of setting l b = subst (λ (p : ℕ). part.count ≤ (grain_of setting l (record a { procedure = p }))) (sym procedure) (subst (λ (z : ℕ). part.count ≤ z) grain one) in
      subst (λ (z : PlainStrand). IsStepped setting z (gathered Running c y (under new now s))) (begins s)
      (subst (λ (z : PlainActivation). IsStepped setting (halves_gathered l k h a x s) (gathered Running z y (under new now s))) (sym is)
      (stopped_recorded setting l s k h a x y new now n j part b m (reaches s clear e f) by_one some))
