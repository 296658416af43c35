-- Lemmas about the program's line and what clap makes of it.
use Rattle.std.proofs.Common.{◌∷◌, ◌<◌, ◌≤◌, arith, ◌≡◌, ◌≢◌, subst, ◌∙◌, ap, sym, refl, inl, inr, ℕ, List, [], Option, Some, None, Result, Ok, Err, IfErr, IfSome, IfNone, option_map, Bor, IsErrAnd, true, false, codes}
use Rattle.clap.specs.Words.{App, HasKind, HasMatchesOf, IsAmong, Kinds, built, fault_of, first_of, first_value, found_of, is_simple, is_simple_and_free, kind_of, matches_of}
use Rattle.clap.specs.Simple.{argument_words}
use Rattle.clap.specs.Walk.{nothing_held}
use Rattle.clap.specs.declared.parser.matches.ArgMatches.{ArgMatches}
use Rattle.clap.specs.declared.error.Error.{Error}
use Rattle.clap.specs.declared.error.kind.ErrorKind.{ErrorKind}
use Rattle.clap.specs.declared.error.kind.ErrorKind.TheVariants.{DisplayHelp, DisplayVersion, OutOfMemory}
use Rattle.clap.proofs.OnLiterals.{clap_on_literals}
use Rattle.clap.proofs.WalkLemmas.{first_value-rows}
use Rattle.command_line.specs.declared.options.OptionsError.{OptionsError}
use Rattle.command_line.specs.declared.options.OptionsError.TheVariants.{NoMemory, Usage, Help, Version}
use Rattle.command_line.specs.declared.options.Views.TheVariants.{Plain, Flat, Mixed}
use Rattle.command_line.specs.Line.{line_form, print_form, value_given, print_given, HasForm, HasPrintForm, IsPrintLine, IsNoPrintLine, IsLine, IsNoLine, Request, IsRefusalOf, IsRefusedFor, WantsHelp, WantsVersion}
use Rattle.command_line.proofs.Faults.{HasOneAtMost, of_words, whole}

pub simple_form : is_simple line_form ≡ true
unfolding clap_on_literals
simple_form = refl

pub free_form : is_simple_and_free line_form ≡ true
unfolding clap_on_literals
free_form = refl

-- what the matches have for a name is what the words give
pub value_given_by : (app : App) (words : List (List ℕ)) (m : ArgMatches) → app ≡ line_form → HasMatchesOf app words m
    → (name : List ℕ) → first_value (found_of m) name ≡ value_given name words
unfolding value_given
value_given_by app words m e h name = first_value-rows (found_of m) name ∙ ap (first_of name) ((h (ap is_simple e ∙ simple_form)).0 ∙ ap (λ a. matches_of a words) e)

-- words that are taken have the form
pub form_of : (app : App) (words : List (List ℕ)) → app ≡ line_form
    → (is_simple_and_free app ≡ true → fault_of app words ≡ []) → HasForm words
unfolding HasForm
form_of app words e h = sym (ap (λ a. fault_of a words) e) ∙ h (ap is_simple_and_free e ∙ free_form)

-- words have one fault at most
one_fault : (words : List (List ℕ)) → HasOneAtMost (fault_of line_form words)
one_fault words = of_words (built line_form).top refl nothing_held (argument_words line_form words)

-- the fault of an error
fault_by : (words : List (List ℕ)) (x : Error) (k : ErrorKind) → HasKind (fault_of line_form words) x → kind_of x ≡ k
    → (k ≢ OutOfMemory) → fault_of line_form words ≡ k ∷ []
fault_by words x k (inl memory) is other = absurd (other (sym is ∙ memory))
fault_by words x k (inr among) is other =
    whole (fault_of line_form words) k (one_fault words) (subst (λ y. IsAmong y (fault_of line_form words)) is among)

-- an error of another kind, where the fault is one
not_one : (kinds : Kinds) (x : Error) (k : ErrorKind) → HasKind kinds x → (kind_of x ≢ OutOfMemory) → (kind_of x ≢ k) → kinds ≡ k ∷ [] → ⊥
not_one kinds x k h memory other is = elim (subst (λ ks. HasKind ks x) is h) [
  | inl m ↦ memory m
  | inr (inl same) ↦ other same
  | inr (inr none) ↦ none
]

-- an error of the words is refused as what it is
pub refused_as : (app : App) (words : List (List ℕ)) (x : Error) (refusal : OptionsError) → app ≡ line_form
    → (is_simple_and_free app ≡ true → HasKind (fault_of app words) x) → IsRefusalOf (kind_of x) refusal
    → IsRefusedFor (HasForm words → ⊥) words refusal
unfolding HasForm WantsHelp WantsVersion
refused_as app words x refusal e h is =
    go refusal is
  where
    kinds : HasKind (fault_of line_form words) x
    kinds = subst (λ ks. HasKind ks x) (ap (λ a. fault_of a words) e) (h (ap is_simple_and_free e ∙ free_form))

    go : (r : OptionsError) → IsRefusalOf (kind_of x) r → IsRefusedFor (HasForm words → ⊥) words r
    go NoMemory is = tt
    go Help is = fault_by words x DisplayHelp kinds is (λ same. absurd cc)
    go Version is = fault_by words x DisplayVersion kinds is (λ same. absurd cc)
    go Usage is = (
      λ empty. elim (subst (λ ks. HasKind ks x) empty kinds) [
        | inl memory ↦ is.0 memory
        | inr none ↦ none
      ],
      not_one (fault_of line_form words) x DisplayHelp kinds is.0 is.1,
      not_one (fault_of line_form words) x DisplayVersion kinds is.0 is.2,
    )

-- words that have the form ask for neither help nor the version
pub as_usage : (words : List (List ℕ)) (error : OptionsError) → HasForm words → IsNoLine words → error ≡ Usage → IsRefusedFor (IsNoLine words) words error
unfolding HasForm WantsHelp WantsVersion
as_usage words error form unfit is =
    subst (IsRefusedFor (IsNoLine words) words) (sym is) (unfit, (λ help. absurd cc), (λ version. absurd cc))

-- nor do they where the error is handed on
pub handed_on : {T : Type 0} (words : List (List ℕ)) (result : Result T OptionsError) (error : OptionsError) → IsErrAnd result (λ e. e ≡ error)
    → HasForm words → IsNoLine words → error ≡ Usage → IfErr result (IsRefusedFor (IsNoLine words) words)
handed_on words (Ok t) error same form unfit is = absurd same
handed_on words (Err e) error same form unfit is = as_usage words e form unfit (same ∙ is)

-- ---- lines that ask for a normal form

simple_print : is_simple print_form ≡ true
unfolding clap_on_literals
simple_print = refl

free_print : is_simple_and_free print_form ≡ true
unfolding clap_on_literals
free_print = refl

-- what the matches have for the program is what the words give
path_given : (app : App) (words : List (List ℕ)) (m : ArgMatches) → app ≡ print_form → HasMatchesOf app words m
    → first_value (found_of m) (codes "print") ≡ print_given words
unfolding print_given
path_given app words m e h =
    first_value-rows (found_of m) (codes "print") ∙ ap (first_of (codes "print")) ((h (ap is_simple e ∙ simple_print)).0 ∙ ap (λ a. matches_of a words) e)

print_form_of : (app : App) (words : List (List ℕ)) → app ≡ print_form
    → (is_simple_and_free app ≡ true → fault_of app words ≡ []) → HasPrintForm words
unfolding HasPrintForm
print_form_of app words e h = sym (ap (λ a. fault_of a words) e) ∙ h (ap is_simple_and_free e ∙ free_print)

-- words that are taken ask for the program that they give
pub path_found : (app : App) (words : List (List ℕ)) (m : ArgMatches) (path : Option (Bor (List ℕ))) → app ≡ print_form → HasMatchesOf app words m
    → (is_simple_and_free app ≡ true → fault_of app words ≡ []) → option_map (λ t. t.now) path ≡ first_value (found_of m) (codes "print") → IfSome path (λ p. IsPrintLine words p.now)
path_found app words m None e h f is = tt
path_found app words m (Some p) e h f is = (print_form_of app words e f, sym (is ∙ path_given app words m e h))

pub no_path : (app : App) (words : List (List ℕ)) (m : ArgMatches) (path : Option (Bor (List ℕ))) → app ≡ print_form → HasMatchesOf app words m
    → option_map (λ t. t.now) path ≡ first_value (found_of m) (codes "print") → IfNone path (IsNoPrintLine words)
no_path app words m (Some p) e h is = tt
no_path app words m None e h is = λ p line. absurd (let none : None ≡ Some p = is ∙ path_given app words m e h ∙ line.1 in cc)

-- words that are refused for another reason than want of memory don't have the form
pub no_print : (app : App) (words : List (List ℕ)) (x : Error) → app ≡ print_form
    → (is_simple_and_free app ≡ true → HasKind (fault_of app words) x) → (kind_of x ≢ OutOfMemory) → IsNoPrintLine words
unfolding HasPrintForm
no_print app words x e h other = λ path line. elim (subst (λ ks. HasKind ks x) line.0 kinds) [
  | inl memory ↦ other memory
  | inr none ↦ none
]
  where
    kinds : HasKind (fault_of print_form words) x
    kinds = subst (λ ks. HasKind ks x) (ap (λ a. fault_of a words) e) (h (ap is_simple_and_free e ∙ free_print))

-- lines written out

abbrev paths_alone : Request
paths_alone = record { program = codes "p.ck"; tables = codes "t.toml"; workers = 1; kits = 64; views = Plain; trace = None; stats = false; explain = false; live = false; why = false }

pub two_workers : IsLine (codes "cilkreport" ∷ codes "p.ck" ∷ codes "--workers" ∷ codes "2" ∷ codes "t.toml" ∷ []) (record paths_alone { workers = 2 })
unfolding value_given HasForm clap_on_literals
two_workers =
    let written : 0 < 1 = omega arith in
    let digit : 2 < 10 = omega arith in
    let one : 1 ≤ 2 = omega arith in
    let sixteen : 2 ≤ 16 = omega arith in
    record {
      form = refl;
      program_is = refl;
      tables_are = refl;
      workers_are = ((written, (digit, tt)), refl, one, sixteen);
      kits_are = refl;
      views_are = refl;
      trace_is = refl;
      stats_are = refl;
      explain_is = refl;
      live_is = refl;
      why_is = refl;
    }

pub one_worker : IsLine (codes "cilkreport" ∷ codes "p.ck" ∷ codes "t.toml" ∷ []) paths_alone
unfolding value_given HasForm clap_on_literals
one_worker = record { form = refl; program_is = refl; tables_are = refl; workers_are = refl; kits_are = refl; views_are = refl; trace_is = refl; stats_are = refl; explain_is = refl; live_is = refl; why_is = refl }

pub eight_kits : IsLine (codes "cilkreport" ∷ codes "--kits" ∷ codes "8" ∷ codes "p.ck" ∷ codes "t.toml" ∷ []) (record paths_alone { kits = 8 })
unfolding value_given HasForm clap_on_literals
eight_kits =
    let written : 0 < 1 = omega arith in
    let digit : 8 < 10 = omega arith in
    let one : 1 ≤ 8 = omega arith in
    let most : 8 ≤ 4096 = omega arith in
    record {
      form = refl;
      program_is = refl;
      tables_are = refl;
      workers_are = refl;
      kits_are = ((written, (digit, tt)), refl, one, most);
      views_are = refl;
      trace_is = refl;
      stats_are = refl;
      explain_is = refl;
      live_is = refl;
      why_is = refl;
    }

pub traced : IsLine (codes "cilkreport" ∷ codes "--stats" ∷ codes "p.ck" ∷ codes "t.toml" ∷ codes "--trace" ∷ codes "runs" ∷ [])
    (record paths_alone { trace = Some (codes "runs"); stats = true })
unfolding value_given HasForm clap_on_literals
traced = record { form = refl; program_is = refl; tables_are = refl; workers_are = refl; kits_are = refl; views_are = refl; trace_is = refl; stats_are = refl; explain_is = refl; live_is = refl; why_is = refl }

pub explained : IsLine (codes "cilkreport" ∷ codes "p.ck" ∷ codes "--explain" ∷ codes "t.toml" ∷ []) (record paths_alone { explain = true })
unfolding value_given HasForm clap_on_literals
explained = record { form = refl; program_is = refl; tables_are = refl; workers_are = refl; kits_are = refl; views_are = refl; trace_is = refl; stats_are = refl; explain_is = refl; live_is = refl; why_is = refl }

pub line_by_line : IsLine (codes "cilkreport" ∷ codes "--live" ∷ codes "p.ck" ∷ codes "t.toml" ∷ []) (record paths_alone { live = true })
unfolding value_given HasForm clap_on_literals
line_by_line = record { form = refl; program_is = refl; tables_are = refl; workers_are = refl; kits_are = refl; views_are = refl; trace_is = refl; stats_are = refl; explain_is = refl; live_is = refl; why_is = refl }

pub with_reasons : IsLine (codes "cilkreport" ∷ codes "p.ck" ∷ codes "--why" ∷ codes "t.toml" ∷ []) (record paths_alone { why = true })
unfolding value_given HasForm clap_on_literals
with_reasons = record { form = refl; program_is = refl; tables_are = refl; workers_are = refl; kits_are = refl; views_are = refl; trace_is = refl; stats_are = refl; explain_is = refl; live_is = refl; why_is = refl }

pub flat_views : IsLine (codes "cilkreport" ∷ codes "--views" ∷ codes "flat" ∷ codes "p.ck" ∷ codes "t.toml" ∷ []) (record paths_alone { views = Flat })
unfolding value_given HasForm clap_on_literals
flat_views = record { form = refl; program_is = refl; tables_are = refl; workers_are = refl; kits_are = refl; views_are = refl; trace_is = refl; stats_are = refl; explain_is = refl; live_is = refl; why_is = refl }

pub mixed_views : IsLine (codes "cilkreport" ∷ codes "p.ck" ∷ codes "t.toml" ∷ codes "--views" ∷ codes "mixed" ∷ []) (record paths_alone { views = Mixed })
unfolding value_given HasForm clap_on_literals
mixed_views = record { form = refl; program_is = refl; tables_are = refl; workers_are = refl; kits_are = refl; views_are = refl; trace_is = refl; stats_are = refl; explain_is = refl; live_is = refl; why_is = refl }

pub no_tables : HasForm (codes "cilkreport" ∷ codes "p.ck" ∷ []) → ⊥
unfolding HasForm clap_on_literals
no_tables e = absurd cc

pub help : WantsHelp (codes "cilkreport" ∷ codes "--help" ∷ [])
unfolding WantsHelp clap_on_literals
help = refl

pub help_behind_a_path : WantsHelp (codes "cilkreport" ∷ codes "p.ck" ∷ codes "-h" ∷ codes "--threads" ∷ [])
unfolding WantsHelp clap_on_literals
help_behind_a_path = refl

pub version : WantsVersion (codes "cilkreport" ∷ codes "-V" ∷ codes "--help" ∷ [])
unfolding WantsVersion clap_on_literals
version = refl

pub printed_program : IsPrintLine (codes "cilkreport" ∷ codes "--print" ∷ codes "p.ck" ∷ []) (codes "p.ck")
unfolding HasPrintForm print_given clap_on_literals
printed_program = (refl, refl)

pub no_session : HasForm (codes "cilkreport" ∷ codes "--print" ∷ codes "p.ck" ∷ []) → ⊥
unfolding HasForm clap_on_literals
no_session e = absurd cc

pub print_with_tables : HasPrintForm (codes "cilkreport" ∷ codes "--print" ∷ codes "p.ck" ∷ codes "t.toml" ∷ []) → ⊥
unfolding HasPrintForm clap_on_literals
print_with_tables e = absurd cc

pub print_with_stats : HasPrintForm (codes "cilkreport" ∷ codes "--stats" ∷ codes "--print" ∷ codes "p.ck" ∷ []) → ⊥
unfolding HasPrintForm clap_on_literals
print_with_stats e = absurd cc

pub print_twice : HasPrintForm (codes "cilkreport" ∷ codes "--print" ∷ codes "p.ck" ∷ codes "--print" ∷ codes "q.ck" ∷ []) → ⊥
unfolding HasPrintForm clap_on_literals
print_twice e = absurd cc
