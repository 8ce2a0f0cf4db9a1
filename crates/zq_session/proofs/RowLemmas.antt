-- What a session's row tells, and what of its pipe is written and lost.
use Rattle.std.proofs.Common.{◌≡◌, ℕ, ◌+◌, Bool, true, false, List, length, Option, Some, None, refl, sym, ap, subst, ◌∙◌, arith}
use Rattle.std.specs.Prelude.{◌&&◌, if◌then◌else◌, IfSome}
use Rattle.zq_base.specs.declared.options.EngineOpts.{EngineOpts}
use Rattle.spec_link.specs.declared.row.SessionRow.{SessionRow}
use Rattle.spec_zmtp.specs.DecodedStream.{Decoded}
use Rattle.spec_link.specs.LinkAct.{LinkAct, put_of}
use Rattle.spec_link.specs.LinkRun.{IsLinkRun}
use Rattle.spec_link.specs.Rows.{ClosedLink, AddUp, AreHeard, AreFates, AreLinkRuns, ArePut, Counts, IsLost, IsSessionRow, acts_at, count_of}
use Rattle.zq_session.specs.declared.tally.Tally.{Tally}
use Rattle.zq_session.specs.Tallies.{Totals, IsTallyOf, AreSendable, HasTally, written_by, lost_by}
use Rattle.zq_session.specs.Counting.{CountsAt, IsLeftAt, IsRowOf}
use Rattle.zq_base.specs.declared.kind.Kind.TheVariants.{Push}
use Rattle.spec_link.specs.History.{Basis, SessionEvent, Standing, standing}
use Rattle.link_side.specs.declared.behind.Behind.TheVariants.{Nothing}
use Rattle.link_side.specs.Kept.{Side, IsAtRest, IsKeptOf}
use Rattle.link_side.specs.Silent.{HasHeard, HasOutput, HasNone}
use Rattle.zq_session.specs.declared.course.Course.{Course}
use Rattle.zq_session.specs.declared.life.Asked.{Asked}
use Rattle.zq_session.specs.Lives.{Story, basis_of, standing_of}
use Rattle.zq_session.specs.Courses.{HasStory, IsAtEase}
use Rattle.zq_session.specs.Sessions.{HasLived}
use Rattle.zq_session.proofs.NotingLemmas.{free_by}
use Rattle.zq_session.proofs.UnputLemmas.{means_link_run}
use Rattle.zq_session.proofs.CourseLemmas.{link_some}
use Rattle.zq_session.proofs.UnlinkedLemmas.{link_gone}
use Rattle.zq_session.proofs.SessionLemmas.{the_state}
use Rattle.zq_session.proofs.SumLemmas.{none_counts}
use Rattle.zq_session.proofs.TallyLemmas.{adds_one, runs_one, sendable_one, written_now, lost_now, counts_at, left_at}

-- ---- rows

module _ (dials : Bool) (opts : EngineOpts) (closed : List ClosedLink) (t : Tally) where
  pub row_none : (row : SessionRow) → ((x : Totals) (h p : ℕ) → 0 ≡ count_of h → 0 ≡ count_of p → IsTallyOf x t → IsRowOf x h p row) → HasTally dials opts None closed t → IsSessionRow opts closed None row
  row_none row f k =
      let x = k.0 in
      let r = f x 0 0 none_counts none_counts k.2 in
      let h : x.heard + 0 ≡ x.heard = omega arith in
      let p : x.put + 0 ≡ x.put = omega arith in
      record {
        links = r.links_is ∙ ap count_of k.1.links_are;
        heard = (x.heard, k.1.heard_is, r.heard_is ∙ ap count_of h);
        put = (x.put, k.1.put_is, r.put_is ∙ ap count_of p);
        last = r.last_is ∙ k.1.last_is;
      }

  pub row_some : (acts : List LinkAct) (heard put : ℕ) (row : SessionRow) → (c : CountsAt opts acts heard put) → ((x : Totals) (h p : ℕ) → heard ≡ count_of h → put ≡ count_of p → IsTallyOf x t → IsRowOf x h p row)
      → HasTally dials opts (Some acts) closed t → IsSessionRow opts closed (Some acts) row
  row_some acts heard put row c f k =
      let x = k.0 in
      let h = length c.meant.messages in
      let p = length (put_of acts) in
      let r = f x h p c.heard_is c.put_is k.2 in
      record {
        links = r.links_is ∙ ap count_of k.1.links_are;
        heard = (x.heard + h, adds_one AreHeard opts closed acts c.meant h x.heard c.run.decodes refl k.1.heard_is, r.heard_is);
        put = (x.put + p, adds_one ArePut opts closed acts c.meant p x.put c.run.decodes refl k.1.put_is, r.put_is);
        last = r.last_is ∙ k.1.last_is;
      }

-- ---- what is written and lost

-- of a session without a link nothing is in flight
none_more : (n m k : ℕ) → m ≡ 0 → k ≡ count_of (n + m) → k ≡ count_of n
none_more n m k e d = (let s : n + m ≡ n = omega (arith, e) in d ∙ ap count_of s)

no_link : (gave_up : Bool) (opts : EngineOpts) (closed : List ClosedLink) (lost : ℕ) → Counts (IsLost opts) opts (acts_at closed None) lost → Counts (IsLost opts) opts (acts_at closed (if gave_up then None else None)) lost
no_link true opts closed lost k = k
no_link false opts closed lost k = k

module _ (dials : Bool) (opts : EngineOpts) (closed : List ClosedLink) (t : Tally) (gave_up : Bool) (written lost : ℕ) where
  pub fates_none : ((x : Totals) → IsTallyOf x t → written ≡ count_of (x.written + written_by false x.taken)) → ((x : Totals) → IsTallyOf x t → lost ≡ count_of (x.lost + lost_by (false && gave_up) x.taken))
      → HasTally dials opts None closed t → AreSendable (acts_at closed None) → AreFates opts closed None gave_up written lost
  fates_none w l k good =
      let x = k.0 in
      record {
        written_is = (x.written, k.1.written_is good, none_more x.written x.taken written k.1.taken_is (w x k.2));
        lost_is = no_link gave_up opts closed lost (x.lost, k.1.lost_is good, none_more x.lost 0 lost refl (l x k.2));
      }

  pub fates_some : (acts : List LinkAct) (d : Decoded) (left : Bool) → IsLinkRun opts acts d → IsLeftAt opts acts left
      → ((x : Totals) → IsTallyOf x t → written ≡ count_of (x.written + written_by left x.taken)) → ((x : Totals) → IsTallyOf x t → lost ≡ count_of (x.lost + lost_by (left && gave_up) x.taken))
      → HasTally dials opts (Some acts) closed t → AreSendable (acts_at closed (Some acts)) → AreFates opts closed (Some acts) gave_up written lost
  fates_some acts d left run i w l k good =
      let x = k.0 in
      let all = lost_now dials opts closed acts x k.1 left d run (λ e. i.some e d run.decodes) (λ e. i.none e d run.decodes) good in
      record {
        written_is = (x.written + written_by left x.taken, written_now dials opts closed acts x k.1 left d run (λ e. i.some e d run.decodes) (λ e. i.none e d run.decodes) good, w x k.2);
        lost_is = by gave_up left all (l x k.2);
      }
    where
      by : (up left : Bool) → AddUp (IsLost opts) opts (acts_at closed (Some acts)) (k.0.lost + lost_by left k.0.taken) → lost ≡ count_of (k.0.lost + lost_by (left && up) k.0.taken)
          → Counts (IsLost opts) opts (acts_at closed (if up then Some acts else None)) lost
      by true true all e = (k.0.lost + lost_by true k.0.taken, all, e)
      by true false all e = (k.0.lost + 0, all, e)
      by false true all e = (k.0.lost, k.1.lost_is (sendable_one closed acts good).0, none_more k.0.lost 0 lost refl e)
      by false false all e = (k.0.lost, k.1.lost_is (sendable_one closed acts good).0, none_more k.0.lost 0 lost refl e)

-- ---- of a session by its story

module _ (c : Course) (p : Story) (keeps : HasStory c p) where
  pub story_row_none : (row : SessionRow) → c.side ≡ None → ((x : Totals) (h q : ℕ) → 0 ≡ count_of h → 0 ≡ count_of q → IsTallyOf x c.tally → IsRowOf x h q row) → IsSessionRow p.opts p.closed p.link row
  story_row_none row e f =
      let none : p.link ≡ None = link_gone p.opts p.link c.side e keeps.link in
      subst (λ (l : Option (List LinkAct)). IsSessionRow p.opts p.closed l row) (sym none)
      (row_none c.life.dials p.opts p.closed c.tally row f (subst (λ (l : Option (List LinkAct)). HasTally c.life.dials p.opts l p.closed c.tally) none keeps.tally))

  pub story_fates_none : (written lost : ℕ) → c.side ≡ None → ((x : Totals) → IsTallyOf x c.tally → written ≡ count_of (x.written + written_by false x.taken))
      → ((x : Totals) → IsTallyOf x c.tally → lost ≡ count_of (x.lost + lost_by (false && c.life.gave_up) x.taken))
      → AreSendable (acts_at p.closed p.link) → AreFates p.opts p.closed p.link c.life.gave_up written lost
  story_fates_none written lost e w l good =
      let none : p.link ≡ None = link_gone p.opts p.link c.side e keeps.link in
      subst (λ (l : Option (List LinkAct)). AreFates p.opts p.closed l c.life.gave_up written lost) (sym none)
      (fates_none c.life.dials p.opts p.closed c.tally c.life.gave_up written lost w l (subst (λ (l : Option (List LinkAct)). HasTally c.life.dials p.opts l p.closed c.tally) none keeps.tally)
      (subst (λ (l : Option (List LinkAct)). AreSendable (acts_at p.closed l)) none good))

  story_runs_none : c.side ≡ None → AreLinkRuns p.opts (acts_at p.closed p.link)
  story_runs_none e = subst (λ (l : Option (List LinkAct)). AreLinkRuns p.opts (acts_at p.closed l)) (sym (link_gone p.opts p.link c.side e keeps.link)) keeps.tally.1.runs

  module _ (sd : Side) (e : c.side ≡ Some sd) (b : sd.behind ≡ Nothing) (rest : IsAtRest sd.kept) where
    at_link : (acts : List LinkAct) × (p.link ≡ Some acts) × IsKeptOf p.opts acts sd.kept
    at_link = link_some p.opts p.link c.side sd e (free_by sd.behind b) keeps.link

    tally_at : HasTally c.life.dials p.opts (Some at_link.0) p.closed c.tally
    tally_at = subst (λ (l : Option (List LinkAct)). HasTally c.life.dials p.opts l p.closed c.tally) at_link.1 keeps.tally

    pub story_row_some : (heard put : ℕ) (row : SessionRow) → HasHeard heard sd.kept → (c.life.kind ≡ Push → put ≡ 0) → ((c.life.kind ≡ Push → ⊥) → put ≡ sd.kept.through)
        → ((x : Totals) (h q : ℕ) → heard ≡ count_of h → put ≡ count_of q → IsTallyOf x c.tally → IsRowOf x h q row) → IsSessionRow p.opts p.closed p.link row
    story_row_some heard put row hears drops puts f =
        subst (λ (l : Option (List LinkAct)). IsSessionRow p.opts p.closed l row) (sym at_link.1)
        (row_some c.life.dials p.opts p.closed c.tally at_link.0 heard put row (counts_at p.opts c.life.kind at_link.0 sd.kept heard put keeps.kind_is at_link.2 rest hears drops puts) f tally_at)

    pub story_fates_some : (written lost : ℕ) (left : Bool) → (left ≡ true → HasOutput sd.kept) → (left ≡ false → HasNone sd.kept) → ((x : Totals) → IsTallyOf x c.tally → written ≡ count_of (x.written + written_by left x.taken))
        → ((x : Totals) → IsTallyOf x c.tally → lost ≡ count_of (x.lost + lost_by (left && c.life.gave_up) x.taken))
        → AreSendable (acts_at p.closed p.link) → AreFates p.opts p.closed p.link c.life.gave_up written lost
    story_fates_some written lost left some none w l good =
        let run = means_link_run p.opts at_link.0 sd.kept at_link.2 rest in
        subst (λ (l : Option (List LinkAct)). AreFates p.opts p.closed l c.life.gave_up written lost) (sym at_link.1)
        (fates_some c.life.dials p.opts p.closed c.tally c.life.gave_up written lost at_link.0 run.0 left run.1 (left_at p.opts at_link.0 sd.kept left at_link.2 some none) w l tally_at
        (subst (λ (l : Option (List LinkAct)). AreSendable (acts_at p.closed l)) at_link.1 good))

    story_runs_some : AreLinkRuns p.opts (acts_at p.closed p.link)
    story_runs_some =
        let run = means_link_run p.opts at_link.0 sd.kept at_link.2 rest in
        subst (λ (l : Option (List LinkAct)). AreLinkRuns p.opts (acts_at p.closed l)) (sym at_link.1) (runs_one p.opts p.closed at_link.0 run.0 run.1 keeps.tally.1.runs)

-- each of its links is a link run, where its side rests
pub story_runs : (c : Course) (p : Story) → HasStory c p → IsAtEase c → IfSome c.side (λ side. IsAtRest side.kept) → AreLinkRuns p.opts (acts_at p.closed p.link)
story_runs c p keeps ease rest = by c.side refl ease rest
  where
    by : (side : Option Side) → c.side ≡ side → IfSome side (λ x. x.behind ≡ Nothing) → IfSome side (λ x. IsAtRest x.kept) → AreLinkRuns p.opts (acts_at p.closed p.link)
    by None e b r = story_runs_none c p keeps e
    by (Some sd) e b r = story_runs_some c p keeps sd e b r

-- what holds of its story holds of its history
pub lived_as : {O I : Type 0} (F : Basis → Standing → Type 0) (c : Course) (g : Asked) (i : Option I) (o : Option O) → ((p : Story) → HasStory c p → F (basis_of c.life p) (standing_of c.life p))
    → (b : Basis) (history : List SessionEvent) → HasLived b history (the_state c g i o) → F b (standing b history)
lived_as F c g i o f b history lived =
    let p = lived.0 in
    subst (λ (s : Standing). F b s) (sym lived.2) (subst (λ (x : Basis). F x (standing_of c.life p)) lived.1 (f p lived.3))
