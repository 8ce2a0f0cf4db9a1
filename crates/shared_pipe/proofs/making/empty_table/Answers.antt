use Rattle.std.proofs.Common.{◌≡◌, ℕ, List, ◌+◌, replicate, None, sym, ◌∙◌, subst}
use Rattle.std.specs.Prelude.{Result, Ok, Err, IfOk}
use Rattle.atomic_table.specs.Table.{opening}
use Rattle.shared_pipe.specs.Rule.{IsSomePipe, fresh_view}
use Rattle.shared_pipe.proofs.HalvesLemmas.{begins}
use Rattle.shared_pipe.proofs.making.empty_table.Goals as goal

if_ok : {T E : Type 0} (r : Result T E) (P Q : T → Type 0) → IfOk r P → ((t : T) → P t → Q t) → IfOk r Q
if_ok (Ok x) P Q k f = f x k
if_ok (Err e) P Q k f = tt

pub vacant-requires : goal.vacant-requires
vacant-requires c =
    let zeros : c.as_slice.result.now ≡ replicate (c.args.capacity + 1) 0 = c.as_slice.ensures.value ∙ c.in_ok-words.ensures.items_if_clones_equal (λ y e. e) in
    subst (λ (ws : List ℕ). IsSomePipe c.args.capacity (opening ws (replicate (c.args.capacity + 1) None) fresh_view)) (sym zeros) (begins c.args.capacity)

pub returns-clause-places : goal.returns-clause-places
returns-clause-places c = if_ok c.vacant.result _ _ c.vacant.ensures (λ t k. (k.0 ∙ c.as_slice.ensures.len ∙ c.in_ok-words.ensures.len, k.1))

pub returns-clause-key : goal.returns-clause-key
returns-clause-key c = if_ok c.vacant.result _ _ c.vacant.ensures (λ t k. k.5)

pub returns-clause-seat : goal.returns-clause-seat
returns-clause-seat c = if_ok c.vacant.result _ _ c.vacant.ensures (λ t k. (k.2, k.4))
