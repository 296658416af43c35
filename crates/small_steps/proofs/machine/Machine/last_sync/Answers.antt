use Rattle.std.proofs.Common.{rules, ◌≡◌, ◌<◌, ℕ, true, length, subst, sym, ap}
use Rattle.positions.specs.Layers.{below_top}
use Rattle.positions.specs.Strands.{PlainStrand}
use Rattle.positions.specs.Tallies.{is_own}
use Rattle.small_steps.proofs.Supplies.{one_home, owned_lies}
use Rattle.small_steps.proofs.machine.Machine.last_sync.Goals as goal

pub returns-clause-kits : goal.returns-clause-kits
returns-clause-kits g c =
    let s = c.args.self.now in
    let supplied = c.requires.supplied in
    let low : c.close_top.new.self.lower ≡ below_top s.lower = ap (λ (s : PlainStrand). s.lower) c.in_ok-kit.ensures.closed in
    let long : c.len.result ≡ length c.self.inside.path.items = search rules in
    let own : is_own s.tally.opened (length s.path) ≡ true =
    subst (λ (s : PlainStrand). is_own s.tally.opened (length s.path) ≡ true) c.self.view_is
    (subst (λ (n : ℕ). is_own c.self.inside.tally.opened n ≡ true) long (sym c.if-not-is_own.ensures.own)) in
    let some : 0 < length s.lower = owned_lies s.tally.opened s.lower (length s.path) own c.requires.layered in
    one_home g.K.KitSource.fits g.K.KitSource.gives g.K.KitSource.free g.K.KitSource.total c.args.setting.program.now.kinds c.in_ok-kit.kit c.args.kits.now c.send_home.new.kits
    s.lower c.close_top.new.self.lower some low c.in_ok-kit.ensures.kit
    c.send_home.ensures.fitting c.send_home.ensures.gives_known c.send_home.ensures.home c.send_home.ensures.total supplied.given
