use Rattle.std.specs.Prelude.{◌||◌, ◌∷◌, [], Bool, true, false, List, if◌then◌else◌, map, refl}
use Rattle.std.specs.List.{list_any}
use Rattle.std.proofs.Common.{◌≡◌, ap, ◌∙◌}
use Rattle.std.proofs.lemmas.List.Folds.{list_any-append}
use Rattle.desk.specs.declared.notice.Notice.{Notice}
use Rattle.end_table.proofs.GivingLemmas.{map_more}
use Rattle.sock_core.specs.Has.{is_stop}
use Rattle.sock_core.proofs.turns.note_heard.Goals as goal

or_last : (a b : Bool) → (a || (b || false)) ≡ (if b then true else a)
or_last true true = refl
or_last true false = refl
or_last false true = refl
or_last false false = refl

pub returns-clause-noted : goal.returns-clause-noted
returns-clause-noted c = ap (λ (l : List (Notice × Unit {0})). map (λ (x : Notice × Unit {0}). x.0) l) c.and.ensures ∙ map_more (λ (x : Notice × Unit {0}). x.0) c.args.heard.now.items (c.args.notice.now, tt)

pub returns-clause-stopped : goal.returns-clause-stopped
returns-clause-stopped c =
    ap (list_any (λ (x : Notice × Unit {0}). is_stop x.0)) c.and.ensures
    ∙ list_any-append (λ (x : Notice × Unit {0}). is_stop x.0) c.args.heard.now.items ((c.args.notice.now, tt) ∷ [])
    ∙ or_last (list_any (λ (x : Notice × Unit {0}). is_stop x.0) c.args.heard.now.items) (is_stop c.args.notice.now)
