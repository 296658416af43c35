use Rattle.std.proofs.Common.{List, length, refl, ap, ◌∙◌}
use Rattle.sync_fold.specs.Books.{PlainLaid, may_touch}
use Rattle.sync_fold.proofs.Places.{cut}
use Rattle.sync_fold.proofs.laid.may_touch_at.Goals as goal

pub returns : goal.returns
returns g c = record { may = c.may_touch.ensures.may ∙ ap (λ (ds : List PlainLaid). may_touch ds) (cut c.args.laid.now c.args.k (length c.args.laid.now) refl c.requires.within) }
