use Rattle.std.proofs.Common.{◌≡◌, ◌∙◌, true, List, [], ◌∷◌, ◌++◌, length, reverse, ap}
use Rattle.std.proofs.lemmas.List.{reverse-append}
use Rattle.linked_program.specs.declared.code.Code.{Code}
use Rattle.positions.specs.Layers.{PlainLayer, blank}
use Rattle.positions.specs.Tallies.{PlainOpened, PlainTally, opening}
use Rattle.positions.specs.Strands.{PlainStrand}
use Rattle.positions.specs.Advance.{begun, opened_of}
use Rattle.small_steps.specs.Steps.{opened_in}
use Rattle.small_steps.proofs.Refused.{where_done, where_refused}
use Rattle.small_steps.proofs.machine.Machine.open.Goals as goal

pub returns-then-is_err-clause-unchanged : goal.returns-then-is_err-clause-unchanged
returns-then-is_err-clause-unchanged g c =
    let m : PlainStrand = record { start = c.self.inside.start; layer = c.self.inside.layer; lower = reverse c.self.inside.lower.items; path = c.self.inside.path.items; top = c.self.inside.top; below = reverse c.self.inside.below.items; phase = c.self.inside.phase; arguments = c.self.inside.arguments.items; tally = c.self.inside.tally } in
    ap (λ (ls : List PlainLayer). record m { lower = reverse ls }) c.reserve.ensures.items ∙ c.self.view_is

pub returns-in-Err-clause-unchanged : goal.returns-in-Err-clause-unchanged
returns-in-Err-clause-unchanged g c =
    let m : PlainStrand = record { start = c.self.inside.start; layer = c.self.inside.layer; lower = reverse c.self.inside.lower.items; path = c.self.inside.path.items; top = c.self.inside.top; below = reverse c.self.inside.below.items; phase = c.self.inside.phase; arguments = c.self.inside.arguments.items; tally = c.self.inside.tally } in
    ap (λ (ls : List PlainLayer). record m { lower = reverse ls }) c.reserve.ensures.items ∙ c.self.view_is

pub returns-in-Err-take-clause-unchanged : goal.returns-in-Err-take-clause-unchanged
returns-in-Err-take-clause-unchanged g c =
    let m : PlainStrand = record { start = c.self.inside.start; layer = c.self.inside.layer; lower = reverse c.self.inside.lower.items; path = c.self.inside.path.items; top = c.self.inside.top; below = reverse c.self.inside.below.items; phase = c.self.inside.phase; arguments = c.self.inside.arguments.items; tally = c.self.inside.tally } in
    ap (λ (ls : List PlainLayer). record m { lower = reverse ls }) c.reserve.ensures.items ∙ c.self.view_is

pub returns-then-is_err-2-clause-unchanged : goal.returns-then-is_err-2-clause-unchanged
returns-then-is_err-2-clause-unchanged g c =
    let m : PlainStrand = record { start = c.self.inside.start; layer = c.self.inside.layer; lower = reverse c.self.inside.lower.items; path = c.self.inside.path.items; top = c.self.inside.top; below = reverse c.self.inside.below.items; phase = c.self.inside.phase; arguments = c.self.inside.arguments.items; tally = c.self.inside.tally } in
    let tally = where_refused (c.open.new.self ≡ m.tally) c.open.result c.is_err-2.result c.is_err-2.ensures.value c.if-is_err-2.true c.open.ensures.unchanged in
    ap (λ (ls : List PlainLayer). record m { lower = reverse ls; tally = c.open.new.self }) c.reserve.ensures.items ∙ ap (λ (t : PlainTally). record m { tally = t }) tally ∙ c.self.view_is

pub returns-clause-opened : goal.returns-clause-opened
returns-clause-opened g c =
    let m : PlainStrand = record { start = c.self.inside.start; layer = c.self.inside.layer; lower = reverse c.self.inside.lower.items; path = c.self.inside.path.items; top = c.self.inside.top; below = reverse c.self.inside.below.items; phase = c.self.inside.phase; arguments = c.self.inside.arguments.items; tally = c.self.inside.tally } in
    let xs : List PlainLayer = c.self.inside.lower.items in
    let low : reverse c.push_reserved.new.self.items ≡ m.layer ∷ m.lower =
    ap reverse (c.push_reserved.ensures.items ∙ ap (λ (ls : List PlainLayer). ls ++ c.replace.result ∷ []) c.reserve.ensures.items) ∙ reverse-append xs (c.replace.result ∷ [])
    ∙ ap (λ (l : PlainLayer). l ∷ reverse xs) c.replace.ensures.value in
    let layer : c.replace.new.dest ≡ blank true c.args.kit (length c.args.program.now.codes) =
    c.replace.ensures.after ∙ c.in_lists-layer.ensures.open ∙ ap (λ (cs : List Code). blank true c.args.kit (length cs)) c.codes-count.ensures.codes in
    let tally : c.open.new.self ≡ opening (opened_of m) m.tally =
    where_done (c.open.new.self ≡ opening c.in-Ok.opened m.tally) c.open.result c.is_err-2.result c.is_err-2.ensures.value c.if-is_err-2.false c.open.ensures.opened
    ∙ ap (λ (o : PlainOpened). opening o m.tally) c.in-Ok.ensures.opened in
    c.begin.ensures.begun
    ∙ ap (λ (ls : List PlainLayer). begun (record m { layer = c.replace.new.dest; lower = ls; tally = c.open.new.self })) low
    ∙ ap (λ (l : PlainLayer). begun (record m { layer = l; lower = m.layer ∷ m.lower; tally = c.open.new.self })) layer
    ∙ ap (λ (t : PlainTally). begun (record m { layer = blank true c.args.kit (length c.args.program.now.codes); lower = m.layer ∷ m.lower; tally = t })) tally
    ∙ ap (opened_in c.args.kit (length c.args.program.now.codes)) c.self.view_is
