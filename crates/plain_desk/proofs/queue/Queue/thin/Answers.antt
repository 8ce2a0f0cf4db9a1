use Rattle.std.specs.Prelude.{◌≡◌, ◌∷◌, [], Bool, true, false, List, cond, filter, refl}
use Rattle.std.proofs.Common.{sym, ap, ◌∙◌, subst}
use Rattle.std.proofs.lemmas.List.Elements.{All-filter}
use Rattle.zq_base.specs.declared.ids.ObjId.{ObjId}
use Rattle.ctl_state.specs.Listed.{Listed}
use Rattle.ctl_plane.specs.Past.{control_of}
use Rattle.control_laws.specs.Closed.{lives}
use Rattle.spec_control.specs.Row.{is_socket}
use Rattle.spec_control.specs.Rows.{obj}
use Rattle.plain_desk.specs.Lent.{AreSockets}
use Rattle.plain_desk.proofs.queue.Queue.thin.Goals as goal

-- what passes a test passes it again
passes_again : {X : Type 0} (p : X → Bool) (xs : List X) → filter p (filter p xs) ≡ filter p xs
passes_again p [] = refl
passes_again {X = X} p (x ∷ xs) = by (p x) refl (passes_again p xs)
  where
    by : (b : Bool) → p x ≡ b → filter p (filter p xs) ≡ filter p xs → filter p (cond b (x ∷ filter p xs) (filter p xs)) ≡ cond b (x ∷ filter p xs) (filter p xs)
    by true is rest = ap (λ (b : Bool). cond b (x ∷ filter p (filter p xs)) (filter p (filter p xs))) is ∙ ap (λ (ys : List X). x ∷ ys) rest
    by false is rest = rest

pub returns-clause-living : goal.returns-clause-living
returns-clause-living g c =
    ap (λ (l : Listed ObjId). filter (lives (control_of c.args.history.now)) l.items) c.keep_living.ensures
    ∙ passes_again (lives (control_of c.args.history.now)) c.self.inside.closed.items
    ∙ ap (λ (l : Listed ObjId). filter (lives (control_of c.args.history.now)) l.items) c.self.view_is

pub returns-clause-sockets : goal.returns-clause-sockets
returns-clause-sockets g c = λ d all.
    subst (λ (l : Listed ObjId). AreSockets d l.items) (sym c.keep_living.ensures)
    (All-filter (lives (control_of c.args.history.now)) (λ (o : ObjId). is_socket (obj d.rows o.0).kind ≡ true) c.self.inside.closed.items
    (subst (λ (l : Listed ObjId). AreSockets d l.items) (sym c.self.view_is) all))
