use Rattle.printing_theory.proofs.Forms.{again}
use Rattle.printing_theory.proofs.normal.laws_of_normal_forms.Goals as goal

pub returns : goal.returns
returns c = record { again = again }
