use Rattle.std.specs.Prelude.{◌++◌, List, [], ◌∷◌, length, map}
use Rattle.std.proofs.Common.{arith, sym, ap, ◌∙◌, subst}
use Rattle.zq_base.specs.declared.ids.ObjId.{ObjId}
use Rattle.desk.specs.declared.given.Given.{Given}
use Rattle.ctl_state.specs.Listed.{Listed}
use Rattle.ctl_plane.specs.Past.{Past, control_of}
use Rattle.plain_desk.specs.declared.mark.Mark.{Mark}
use Rattle.plain_desk.specs.Lent.{IsLent}
use Rattle.plain_desk.specs.Reaping.{IsReaping}
use Rattle.plain_desk.proofs.LentLemmas.{lent_begins}
use Rattle.plain_desk.proofs.ReapingLemmas.{reaps_begin}
use Rattle.plain_desk.proofs.one_desk.OneDesk.new.Goals as goal

pub invariant_of-result : goal.invariant_of-result
invariant_of-result g c = (
  subst (λ (p : Past (Given g.row.P-Name.Denot g.row.P-Out.Denot g.row.P-In.Denot) g.row.P-Name.Denot g.row.P-Story.Denot). IsLent (map (λ (x : Mark × Unit {0}). x.0) c.new-2.result.items) p (length c.push-2.new.self.items)) (sym c.in_ok-history.ensures)
      (subst (λ (xs : List (Mark × Unit {0})). IsLent {G = Given g.row.P-Name.Denot g.row.P-Out.Denot g.row.P-In.Denot} {N = g.row.P-Name.Denot} {S = g.row.P-Story.Denot} (map (λ (x : Mark × Unit {0}). x.0) xs) (record { workers = 1; events = []; given = [] }) (length c.push-2.new.self.items)) (sym c.new-2.ensures)
      (subst (λ (ws : List g.row.P-Waker.Denot). IsLent {G = Given g.row.P-Name.Denot g.row.P-Out.Denot g.row.P-In.Denot} {N = g.row.P-Name.Denot} {S = g.row.P-Story.Denot} [] (record { workers = 1; events = []; given = [] }) (length ws))
      (sym (c.in_ok-push-2.ensures.items ∙ ap (λ (ws : List g.row.P-Waker.Denot). ws ++ c.args.worker ∷ []) (c.in_ok-push.ensures.items ∙ ap (λ (ws : List g.row.P-Waker.Denot). ws ++ c.args.reaper ∷ []) c.new-wakers.ensures.items)))
      (lent_begins 1 2 (omega arith) (omega arith)))),
  subst (λ (p : Past (Given g.row.P-Name.Denot g.row.P-Out.Denot g.row.P-In.Denot) g.row.P-Name.Denot g.row.P-Story.Denot). IsReaping (control_of p) c.new-3.result) (sym c.in_ok-history.ensures)
      (reaps_begin 1 c.new-3.result (ap (λ (l : Listed ObjId). l.items) c.new-3.ensures)),
)
