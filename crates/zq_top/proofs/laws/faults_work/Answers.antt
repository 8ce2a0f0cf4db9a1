use Rattle.std.proofs.Common.{◌≡◌, ◌∙◌, ℕ, List, Result, Err, slice_index_or, refl, sym, ap, arith}
use Rattle.std.specs.Fmt.{digits}
use Rattle.std.specs.Prelude.{codes}
use Rattle.zq_script.specs.Grammar.{first_word, statement_of, verb_of}
use Rattle.zq_script.specs.Script.{script_of, at_line, line_statement, statements_from}
use Rattle.spec_run.specs.Script.{Script}
use Rattle.zq_script.specs.Words.{is_skipped, lines_of, without_empty_end, words_of}
use Rattle.zq_script.specs.declared.fault.Cause.TheVariants.{BadWord}
use Rattle.zq_script.specs.declared.fault.ScriptFault.{ScriptFault}
use Rattle.zq_top.specs.Examples.{FaultsWork}
use Rattle.zq_top.specs.Headline.{fault_text, RefusesScript}
use Rattle.zq_top.proofs.laws.faults_work.Goals as goal

one_fault : (f g : ScriptFault) → ◌≡◌ {A = Result Script ScriptFault} (Err f) (Err g) → f ≡ g
one_fault f g same = cc

abbrev first : ScriptFault
first = record { line = 1; cause = BadWord }

refused : script_of (codes "x\n") ≡ Err first
unfolding script_of lines_of without_empty_end statements_from line_statement is_skipped words_of at_line statement_of first_word verb_of
refused = refl

said : RefusesScript (codes "x\n") (codes "script 1 BadWord\n")
unfolding digits
said = record { fault = first; fault_is = refused; text_is = refl }

no_other_line : RefusesScript (codes "x\n") (codes "script 2 BadWord\n") → ⊥
unfolding digits
no_other_line r =
    let same : codes "script 2 BadWord\n" ≡ fault_text first = r.text_is ∙ ap fault_text (sym (one_fault first r.fault (sym refused ∙ r.fault_is))) in
    let e : ◌≡◌ {A = ℕ} 50 49 = ap (λ (text : List ℕ). slice_index_or text 7 0) same in
    omega (arith, e)

works : FaultsWork
unfolding digits
works = record {
  line = refl;
  whole = refl;
  said = said;
  only = no_other_line;
}

pub returns : goal.returns
returns c = works
