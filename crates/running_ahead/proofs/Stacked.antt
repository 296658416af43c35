-- Parts of a half that are put on the strand once the first iterations of the half are over.
use Rattle.std.proofs.Common.{◌≡◌, ◌∙◌, ℕ, zero, suc, ◌+◌, ◌-◌, ◌/◌, ◌==◌, ◌<◌, ◌≤◌, false, ◌||◌, List, [], ◌∷◌, ◌++◌, reverse, refl, sym, ap, subst, arith}
use Rattle.std.specs.Prelude.{nat_le}
use Rattle.std.proofs.lemmas.Bool.Decides.{nat_tests}
use Rattle.std.proofs.lemmas.List.{reverse-append}
use Rattle.positions.specs.declared.work.Loop.{Loop}
use Rattle.positions.specs.declared.work.Share.{Share}
use Rattle.positions.specs.declared.work.Work.TheVariants.{Turns}
use Rattle.positions.specs.declared.phase.Phase.TheVariants.{Running}
use Rattle.positions.specs.Setting.{Setting}
use Rattle.positions.specs.Activations.{PlainActivation, at}
use Rattle.positions.specs.Layers.{PlainLayer}
use Rattle.positions.specs.Strands.{PlainStrand}
use Rattle.positions.specs.Advance.{left_of, right_of}
use Rattle.activations.specs.Turned.{turned_by}
use Rattle.own_statements.specs.Paths.{HasRoomAbove, stacked, topped}
use Rattle.answered_loops.specs.Answered.{is_by_turns}
use Rattle.running_ahead.specs.Ahead.{IsAhead}
use Rattle.running_ahead.specs.Chains.{AreTurns, IsWithin, reach, IsClear, halves_now, under, Reaches}
use Rattle.running_ahead.proofs.Paths.{ahead_here, ahead_join}
use Rattle.running_ahead.proofs.Halving.{turns_ahead}
use Rattle.running_ahead.proofs.ChainedTurns.{ArePartedAt, parted, chained_turns, chained_stay}
use Rattle.running_ahead.proofs.ChainedHalves.{clear_home, clear_above, grain_of, child_of_half, under_first, under_second, to_first, by_turns, all_over, second_begun}

pub reach_more : (r g : ℕ) → g ≤ reach r g
reach_more zero g = omega arith
reach_more (suc r) g =
    let fewer : g ≤ reach r g = reach_more r g in
    omega (arith, fewer)

pub not_by_turns : (k c g : ℕ) → g < c → (suc k == 0 || nat_le c g) ≡ false
not_by_turns k c g more = grind (arith, nat_tests, more)

module _ (setting : Setting) (l : Loop) where
  -- the half isn't halved
  pub stays_there : (r k : ℕ) (h : Share) (a : PlainActivation) (s : PlainStrand) (u v : PlainLayer) (n : ℕ) → IsClear s → AreTurns setting l a.procedure a.slots a.left h.first u n v
      → Reaches setting l r s k h a u v s.path s.below n k h a n
  stays_there r k h a s u v n clear turns = record {
    between = u;
    ahead = ahead_here setting (halves_now l k h a u s);
    turns = turns;
    clear = clear;
    number = refl;
    procedure = refl;
    slots = refl;
    left = refl;
  }

  module _ (r k : ℕ) (h : Share) (a : PlainActivation) (s : PlainStrand) (u v : PlainLayer) (n : ℕ) (clear : IsClear s) (fits : h.count ≤ reach (suc r) (grain_of setting l a)) (halved : grain_of setting l a < h.count)
      (turns : AreTurns setting l a.procedure a.slots a.left h.first u n v) where
    abbrev many : is_by_turns setting.codes a l (suc k) h.count ≡ false
    many = not_by_turns k h.count (grain_of setting l a) halved

    -- the next iteration is in the first half
    pub first_reached : Reaches setting l r s (suc k) h a u v (s.path ++ (a.children + 1) ∷ []) (under_first setting l k h a ∷ s.below) n k (left_of h) (child_of_half setting l k (left_of h) a) n
    first_reached = record {
      between = u;
      ahead = to_first setting l k h a u s many;
      turns = turns;
      clear = clear_above (a.children + 1) s (under_first setting l k h a ∷ s.below) clear;
      number = refl;
      procedure = refl;
      slots = refl;
      left = refl;
    }

    -- or in the second one
    pub second_reached : h.count / 2 ≤ n → Reaches setting l r s (suc k) h a u v (s.path ++ ((a.children + 1) + 1) ∷ []) (under_second setting l k h a ∷ s.below) n k (right_of h) (child_of_half setting l k (right_of h) a) (n - h.count / 2)
    second_reached over =
        let sum : n ≡ h.count / 2 + (n - h.count / 2) = omega (arith, over) in
        let number : (h.first + h.count / 2) + (n - h.count / 2) ≡ h.first + n = omega (arith, over) in
        let those : ArePartedAt setting l a.procedure a.slots a.left h.first u (h.count / 2) (n - h.count / 2) v = parted setting l a.procedure a.slots a.left h.first u (h.count / 2) (n - h.count / 2) n v sum turns in
        record {
          between = those.between;
          ahead = second_begun setting l r (all_over setting l r) k h a u s clear fits many those.between those.first;
          turns = those.second;
          clear = clear_above ((a.children + 1) + 1) s (under_second setting l k h a ∷ s.below) clear;
          number = number;
          procedure = refl;
          slots = refl;
          left = refl;
        }

  -- one behind another
  pub reaches_join : (r e : ℕ) (s : PlainStrand) (k : ℕ) (h : Share) (a : PlainActivation) (u v : PlainLayer) (path : List ℕ) (below : List PlainActivation) (m j : ℕ) (part : Share) (b : PlainActivation) (n : ℕ)
      (far : List ℕ) (deep : List PlainActivation) (i : ℕ) (small : Share) (c : PlainActivation) (o : ℕ)
      → (first : Reaches setting l r s k h a u v path below m j part b n) → Reaches setting l e (under path below s) j part b first.between v far deep n i small c o
      → Reaches setting l e s k h a u v far deep m i small c o
  reaches_join r e s k h a u v path below m j part b n far deep i small c o first second = record {
    between = second.between;
    ahead = ahead_join setting (halves_now l k h a u s) (halves_now l j part b first.between (under path below s)) (halves_now l i small c second.between (under far deep s)) first.ahead second.ahead;
    turns = second.turns;
    clear = second.clear;
    number = second.number ∙ first.number;
    procedure = second.procedure ∙ first.procedure;
    slots = second.slots ∙ first.slots;
    left = second.left ∙ first.left;
  }

  -- ---- the last part goes iteration by iteration

  module _ (s : PlainStrand) (k : ℕ) (h : Share) (a : PlainActivation) (u v : PlainLayer) (path : List ℕ) (below : List PlainActivation) (m j : ℕ) (part : Share) (b : PlainActivation) (n : ℕ) (reached : Reaches setting l 0 s k h a u v path below m j part b n)
      (few : part.count ≤ grain_of setting l b) (some : n < part.count) where
    abbrev x : PlainStrand
    x = under path below s

    abbrev home : HasRoomAbove x
    home = clear_home x reached.clear

    abbrev by_one : PlainActivation
    by_one = at (Turns l part) b

    begins : IsAhead setting (halves_now l k h a u s) (topped Running by_one reached.between x)
    begins =
        let last = halves_now l j part b reached.between x in
        ahead_join setting (halves_now l k h a u s) last (topped Running by_one reached.between x) reached.ahead
        (turns_ahead setting l j part last (topped Running by_one reached.between x) refl refl (by_turns setting l j part b few) refl)

    -- its next iteration isn't called
    pub stopped_before : IsAhead setting (halves_now l k h a u s) (topped Running (turned_by n l part by_one) v x)
    stopped_before =
        let fits : n ≤ part.count = omega (arith, some) in
        ahead_join setting (halves_now l k h a u s) (topped Running by_one reached.between x) (topped Running (turned_by n l part by_one) v x) begins
        (chained_turns setting l part by_one reached.between n v reached.turns refl fits x home)

  -- its next iteration is called and stands above it
  pub stopped_within : (s : PlainStrand) (k : ℕ) (h : Share) (a : PlainActivation) (u : PlainLayer) (path : List ℕ) (below : List PlainActivation) (m j : ℕ) (part : Share) (b : PlainActivation) (n o : ℕ) (xs : List PlainActivation) (w : PlainLayer)
      → (inside : IsWithin setting l a.procedure a.slots a.left h.first m o u xs w) → Reaches setting l 0 s k h a u inside.before path below m j part b n → part.count ≤ grain_of setting l b → n < part.count
      → IsAhead setting (halves_now l k h a u s) (stacked (suc o) (turned_by (suc n) l part (at (Turns l part) b)) xs w (under path below s))
  stopped_within s k h a u path below m j part b n o xs w inside reached few some =
      let x = under path below s in
      let by_one = at (Turns l part) b in
      let t = stacked (suc o) (turned_by (suc n) l part by_one) xs w x in
      let there : IsWithin setting l b.procedure b.slots b.left part.first n o reached.between xs w = record {
        before = inside.before;
        turns = reached.turns;
        stay = λ c g procedure slots left work first. inside.stay c g (procedure ∙ reached.procedure) (slots ∙ reached.slots) (left ∙ reached.left) work (first ∙ reached.number);
      } in
      ahead_join setting (halves_now l k h a u s) (topped Running by_one reached.between x) t (begins s k h a u inside.before path below m j part b n reached few some)
      (chained_stay setting l part by_one reached.between n o xs w there refl some x (clear_home x reached.clear))

-- ---- as lists of a strand's parts

module _ (setting : Setting) (l : Loop) (r : ℕ) (s : PlainStrand) (h : Share) (a : PlainActivation) (u v : PlainLayer) (m j : ℕ) (part : Share) (n : ℕ) where
  pub reached_as : (k given : ℕ) (path new : List ℕ) (below now : List PlainActivation) (b c : PlainActivation) → given ≡ k → new ≡ path → now ≡ below → c ≡ b → Reaches setting l r s k h a u v path below m j part b n
      → Reaches setting l r s given h a u v new now m j part c n
  reached_as k given path new below now b c e f g i reached =
      subst (λ x. Reaches setting l r s x h a u v new now m j part c n) (sym e)
      (subst (λ xs. Reaches setting l r s k h a u v xs now m j part c n) (sym f)
      (subst (λ (xs : List PlainActivation). Reaches setting l r s k h a u v path xs m j part c n) (sym g)
      (subst (λ (x : PlainActivation). Reaches setting l r s k h a u v path below m j part x n) (sym i) reached)))

module _ (setting : Setting) (l : Loop) (r k given g : ℕ) (h : Share) (a : PlainActivation) (s : PlainStrand) (u v : PlainLayer) (n : ℕ) (path new : List ℕ) (old now : List PlainActivation) (b : PlainActivation) (deep : given ≡ suc k) (grain : g ≡ grain_of setting l a) (fits : h.count ≤ reach (suc r) g) (halved : g < h.count)
    (clear : IsClear s) (same_path : s.path ≡ path) (same_below : s.below ≡ reverse old) (turns : AreTurns setting l a.procedure a.slots a.left h.first u n v) where
  abbrev fits_here : h.count ≤ reach (suc r) (grain_of setting l a)
  fits_here = subst (λ (x : ℕ). h.count ≤ reach (suc r) x) grain fits

  abbrev halved_here : grain_of setting l a < h.count
  halved_here = subst (λ (x : ℕ). x < h.count) grain halved

  pub first_level : new ≡ path ++ (a.children + 1) ∷ [] → now ≡ old ++ under_first setting l k h a ∷ [] → b ≡ child_of_half setting l k (left_of h) a → Reaches setting l r s given h a u v new (reverse now) n k (left_of h) b n
  first_level e f is =
      let one = under_first setting l k h a in
      let below : reverse now ≡ one ∷ s.below = ap (λ (xs : List PlainActivation). reverse xs) f ∙ reverse-append old (one ∷ []) ∙ ap (λ (xs : List PlainActivation). one ∷ xs) (sym same_below) in
      reached_as setting l r s h a u v n k (left_of h) n (suc k) given (s.path ++ (a.children + 1) ∷ []) new (one ∷ s.below) (reverse now) (child_of_half setting l k (left_of h) a) b
      deep (e ∙ ap (λ (xs : List ℕ). xs ++ (a.children + 1) ∷ []) (sym same_path)) below is (first_reached setting l r k h a s u v n clear fits_here halved_here turns)

  pub second_level : h.count / 2 ≤ n → new ≡ path ++ ((a.children + 1) + 1) ∷ [] → now ≡ old ++ under_second setting l k h a ∷ [] → b ≡ child_of_half setting l k (right_of h) a
      → Reaches setting l r s given h a u v new (reverse now) n k (right_of h) b (n - h.count / 2)
  second_level over e f is =
      let one = under_second setting l k h a in
      let below : reverse now ≡ one ∷ s.below = ap (λ (xs : List PlainActivation). reverse xs) f ∙ reverse-append old (one ∷ []) ∙ ap (λ (xs : List PlainActivation). one ∷ xs) (sym same_below) in
      reached_as setting l r s h a u v n k (right_of h) (n - h.count / 2) (suc k) given (s.path ++ ((a.children + 1) + 1) ∷ []) new (one ∷ s.below) (reverse now) (child_of_half setting l k (right_of h) a) b
      deep (e ∙ ap (λ (xs : List ℕ). xs ++ ((a.children + 1) + 1) ∷ []) (sym same_path)) below is (second_reached setting l r k h a s u v n clear fits_here halved_here turns over)

-- nothing is put on top
pub reached_here : (setting : Setting) (l : Loop) (r k : ℕ) (h : Share) (a : PlainActivation) (s : PlainStrand) (u v : PlainLayer) (n : ℕ) (path : List ℕ) (below : List PlainActivation) → IsClear s → s.path ≡ path → s.below ≡ below
    → AreTurns setting l a.procedure a.slots a.left h.first u n v → Reaches setting l r s k h a u v path below n k h a n
reached_here setting l r k h a s u v n path below clear e f turns =
    reached_as setting l r s h a u v n k h n k k s.path path s.below below a a refl (sym e) (sym f) refl (stays_there setting l r k h a s u v n clear turns)

-- one level more, with one copy less
pub level_joined : (setting : Setting) (site now : Loop) → now ≡ site → (r n : ℕ) → n ≡ suc r → (s : PlainStrand) (k : ℕ) (h : Share) (a : PlainActivation) (u v : PlainLayer) (path : List ℕ) (below : List PlainActivation) (m j : ℕ) (part : Share) (b : PlainActivation) (o : ℕ)
    (far : List ℕ) (deep : List PlainActivation) (i : ℕ) (small : Share) (c : PlainActivation) (q : ℕ)
    → Reaches setting site n s k h a u v path below m j part b o
    → ((w : PlainLayer) → IsClear (under path below s) → AreTurns setting now b.procedure b.slots b.left part.first w o v → Reaches setting now r (under path below s) j part b w v far deep o i small c q)
    → Reaches setting site r s k h a u v far deep m i small c q
level_joined setting site now same r n long s k h a u v path below m j part b o far deep i small c q given step =
    let first : Reaches setting now (suc r) s k h a u v path below m j part b o =
    subst (λ (x : ℕ). Reaches setting now x s k h a u v path below m j part b o) long (subst (λ (x : Loop). Reaches setting x n s k h a u v path below m j part b o) (sym same) given) in
    subst (λ (x : Loop). Reaches setting x r s k h a u v far deep m i small c q) same
    (reaches_join setting now (suc r) r s k h a u v path below m j part b o far deep i small c q first (step first.between first.clear first.turns))
