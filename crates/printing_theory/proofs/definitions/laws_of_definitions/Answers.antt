use Rattle.printing_theory.proofs.Defined.{text_of_texts, defined_of_texts, defined_prints}
use Rattle.printing_theory.proofs.definitions.laws_of_definitions.Goals as goal

pub returns-clause-text : goal.returns-clause-text
returns-clause-text c = text_of_texts

pub returns-clause-defined : goal.returns-clause-defined
returns-clause-defined c = defined_of_texts

pub returns-clause-printed : goal.returns-clause-printed
returns-clause-printed c = defined_prints
