-- The plain form of what the statements of a procedure are checked against.
use Rattle.std.specs.Prelude.{map}
use Rattle.meaning.specs.TreeView.{decl}
use Rattle.linked_program.specs.TableNames.{columned}
use Rattle.linked_program.specs.Rules.{Setting}
use Rattle.single_rules.specs.declared.setting.Setting.{Setting as RustSetting}

abbrev pub plain : RustSetting → Setting
plain s = record {
  program = map decl s.declarations.now;
  tables = map columned s.tables.now;
  in_main = s.in_main;
  declaration = s.declaration;
  lines = s.lines;
}
