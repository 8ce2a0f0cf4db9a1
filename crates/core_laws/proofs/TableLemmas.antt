-- A table of dropped messages goes on with what is done.
use Rattle.std.specs.Prelude.{◌≡◌, ◌+◌, ℕ, List, drop, length, refl}
use Rattle.std.proofs.Common.{sym, ap, ◌∙◌}
use Rattle.std.proofs.lemmas.List.{drop_at}
use Rattle.spec_pattern.specs.declared.answers.Skip.{Skip}
use Rattle.spec_control.specs.Control.{begun}
use Rattle.spec_control.specs.ControlRun.{after_all}
use Rattle.core_laws.specs.Counting.{TablesGoOn}
use Rattle.core_laws.specs.Drops.{drops_at, drops_told}
use Rattle.core_laws.proofs.CountingLemmas.{drops_go_on}
use Rattle.core_laws.proofs.DropLemmas.{calls_tell_drops}

pub tables_go_on : (N S : Type 0) → TablesGoOn N S
tables_go_on N S = record {
  none = λ drops pieces caller reaps acts counts p. counts p ∙ sym ((drops_go_on N S).none p pieces caller reaps acts);
  told = λ workers items run o more caller asks old new answer told told_now before after calls at drops now counts adds p.
      let c = after_all items (begun workers) in
      let behind : drop (length told) told_now ≡ calls.skips = ap (drop (length told)) calls.tells ∙ drop_at told calls.skips (length told) refl in
      adds p ∙ ap (λ (n : ℕ). n + drops_told c o p (drop (length told) told_now)) (counts p)
      ∙ ap (λ (skips : List Skip). drops_at p before + drops_told c o p skips) behind
      ∙ sym (calls_tell_drops N S workers items run o more caller asks old new answer told told_now before after calls at p);
}
