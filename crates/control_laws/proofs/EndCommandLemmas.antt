-- What is kept where an end hears a command, meets a delimiter, or is attached.
use Rattle.std.specs.Prelude.{◌≡◌, ◌≢◌, ◌&&◌, ◌||◌, ℕ, Bool, true, false, not, List, ◌∷◌, map, Option, Some, None, slice_index_or, refl}
use Rattle.std.proofs.Common.{arith, sym, ap, ◌∙◌, subst}
use Rattle.zq_base.specs.declared.ids.EndId.{EndId}
use Rattle.zq_base.specs.declared.ids.Settled.{Settled}
use Rattle.spec_control.specs.declared.end.EndState.TheVariants.{Active, DelimiterGot, WaitDelimiter, AckSent, AskedOnce, AskedTwice, Gone}
use Rattle.spec_control.specs.declared.end.EndEvent.{EndEvent}
use Rattle.spec_control.specs.declared.end.EndEvent.TheVariants.{Asked, TermCame, DelimiterSeen, AckCame}
use Rattle.spec_control.specs.declared.end.Reason.{Reason}
use Rattle.spec_control.specs.declared.letter.Letter.{Letter}
use Rattle.spec_control.specs.declared.letter.Word.TheVariants.{PipeTerm, PipeTermAck}
use Rattle.spec_control.specs.Stage.{is_alive, was_asked}
use Rattle.spec_control.specs.Place.{Place, Unmade, Away, At, Half, is_here, is_gone, is_unmade, looks, was_ended}
use Rattle.spec_control.specs.PairPhase.{Happens, place_after, may, meets, behind_first, front_is_term, front_is_ack}
use Rattle.spec_control.specs.Row.{Row, nobody, reads_on}
use Rattle.spec_control.specs.Rows.{obj, pair, end_place, end_owner, end_half, pair_after}
use Rattle.spec_control.specs.Control.{Control, id, is_end, end_of, place_of, owner_of, happens}
use Rattle.spec_control.specs.After.{Answers, processed, without_front, settle}
use Rattle.control_laws.specs.Reached.{is_empty, is_past}
use Rattle.control_laws.specs.Mail.{Mark, PipeTermSign, PipeAckSign, EndLink, end_mark, end_marks, queue, slot_of}
use Rattle.control_laws.specs.Kept.{KeptBut, Kept}
use Rattle.control_laws.proofs.ListLemmas.{never, clash}
use Rattle.control_laws.proofs.LinkLemmas.{moves_on}
use Rattle.control_laws.proofs.ClosedLemmas.{Inv}
use Rattle.control_laws.proofs.RowLemmas.{pair_there}
use Rattle.control_laws.proofs.MailLemmas.{Oldest}
use Rattle.control_laws.proofs.FrontLemmas.{pipe_term_front, pipe_ack_front}
use Rattle.control_laws.proofs.StepLemmas.{inv_of, moves_after}
use Rattle.control_laws.proofs.PutLemmas.{rows_pair_queues, one_now, end_now}
use Rattle.control_laws.proofs.TellLemmas.{rows_of}
use Rattle.control_laws.proofs.HearLemmas.{AllButMail, happens_kept, happens_alone, EndMoved, end_moved}
use Rattle.control_laws.proofs.AskLemmas.{end_self, same_end}
use Rattle.control_laws.proofs.EndLemmas.{AtOnce, at_once, kept_but, kept_at, end_keeps, try_end_kept}
use Rattle.control_laws.proofs.DeliverLemmas.{inv, first_of, left_over}

pub one_here : (a : Bool) (q : List Mark) (f : Bool → List Mark) → one_now a q f a ≡ q
one_here true q f = refl
one_here false q f = refl

pub one_there : (a : Bool) (q : List Mark) (f : Bool → List Mark) → one_now a q f (not a) ≡ f (not a)
one_there true q f = refl
one_there false q f = refl

-- what hears keeps what is asked of an end of an object that was asked
pub hears_ended : (event : EndEvent) (on : Bool) (place : Place) → ((why : Reason) (delay : Bool) → event ≢ Asked why delay) → was_ended on place ≡ true → was_ended on (place_after (Happens event) place) ≡ true
hears_ended event on Unmade n h = h
hears_ended event on Away n h = h
hears_ended event on (At Active) n h = absurd (never h)
hears_ended event on (At DelimiterGot) n h = absurd (never h)
hears_ended (Asked why delay) on (At WaitDelimiter) n h = absurd (n why delay refl)
hears_ended TermCame on (At WaitDelimiter) n h = h
hears_ended DelimiterSeen on (At WaitDelimiter) n h = refl
hears_ended AckCame on (At WaitDelimiter) n h = h
hears_ended (Asked why delay) on (At AckSent) n h = absurd (n why delay refl)
hears_ended TermCame on (At AckSent) n h = h
hears_ended DelimiterSeen on (At AckSent) n h = h
hears_ended AckCame on (At AckSent) n h = refl
hears_ended (Asked why delay) on (At AskedOnce) n h = absurd (n why delay refl)
hears_ended TermCame on (At AskedOnce) n h = refl
hears_ended DelimiterSeen on (At AskedOnce) n h = h
hears_ended AckCame on (At AskedOnce) n h = refl
hears_ended (Asked why delay) on (At AskedTwice) n h = absurd (n why delay refl)
hears_ended TermCame on (At AskedTwice) n h = h
hears_ended DelimiterSeen on (At AskedTwice) n h = h
hears_ended AckCame on (At AskedTwice) n h = refl
hears_ended (Asked why delay) on (At Gone) n h = absurd (n why delay refl)
hears_ended TermCame on (At Gone) n h = h
hears_ended DelimiterSeen on (At Gone) n h = h
hears_ended AckCame on (At Gone) n h = h

-- an object that was as asked stays so where an end of it, or of another, hears
pub at_once_moved : (b : ℕ) (event : EndEvent) (e : EndId) (c d : Control) → ((why : Reason) (delay : Bool) → event ≢ Asked why delay) → EndMoved event e c d → AtOnce b c.rows → AtOnce b d.rows
at_once_moved b event e c d hears m now = record { ends = ends; children = children }
  where
    row : (i : ℕ) → obj d.rows i ≡ obj c.rows i
    row i = ap (λ (l : List Row). slice_index_or l i nobody) m.objects

    ended : (x : EndId) → was_ended (reads_on (obj c.rows b)) (place_of c x) ≡ true → was_ended (reads_on (obj c.rows b)) (place_of d x) ≡ true
    ended x h = pick (is_end x e) refl
      where
        pick : (t : Bool) → is_end x e ≡ t → was_ended (reads_on (obj c.rows b)) (place_of d x) ≡ true
        pick true same =
            subst (λ (j : EndId). was_ended (reads_on (obj c.rows b)) (place_of d j) ≡ true) (sym (same_end x e same))
            (ap (was_ended (reads_on (obj c.rows b))) m.here ∙ hears_ended event (reads_on (obj c.rows b)) (place_of c e) hears (subst (λ (j : EndId). was_ended (reads_on (obj c.rows b)) (place_of c j) ≡ true) (same_end x e same) h))
        pick false other = ap (was_ended (reads_on (obj c.rows b))) (m.elsewhere x.pair.0 x.a (λ (same : x ≡ e). clash (is_end x e) (ap (λ (j : EndId). is_end j e) same ∙ end_self e) other)) ∙ h

    ends : (k : ℕ) (a : Bool) → end_owner (pair d.rows k) a ≡ b → was_asked (obj d.rows b).stage ≡ true → was_ended (reads_on (obj d.rows b)) (end_place (pair d.rows k) a) ≡ true
    ends k a of h =
        ap (λ (o : Row). was_ended (reads_on o) (end_place (pair d.rows k) a)) (row b)
        ∙ ended (end_of k a) (now.ends k a (sym (m.owners k a) ∙ of) (sym (ap (λ (o : Row). was_asked o.stage) (row b)) ∙ h))

    children : (i : ℕ) → b ≢ 0 → (obj d.rows i).owner ≡ Some b → was_asked (obj d.rows b).stage ≡ true → (obj d.rows i).noted ≡ true → is_alive (obj d.rows i).stage ≡ false
    children i below of h noted =
        ap (λ (o : Row). is_alive o.stage) (row i)
        ∙ now.children i below (sym (ap (λ (o : Row). o.owner) (row i)) ∙ of) (sym (ap (λ (o : Row). was_asked o.stage) (row b)) ∙ h) (sym (ap (λ (o : Row). o.noted) (row i)) ∙ noted)

pub here_not_past : (h : Half) → is_here h.place ≡ true → is_past h ≡ false
here_not_past h here = by h.place here
  where
    by : (p : Place) → is_here p ≡ true → ((is_gone p || is_unmade p) && is_empty h.mail) ≡ false
    by Unmade e = absurd (never e)
    by Away e = absurd (never e)
    by (At Active) e = refl
    by (At DelimiterGot) e = refl
    by (At WaitDelimiter) e = refl
    by (At AckSent) e = refl
    by (At AskedOnce) e = refl
    by (At AskedTwice) e = refl
    by (At Gone) e = absurd (never e)

-- behind a PipeTerm or a delimiter the end is still there
pub met_here : (event : EndEvent) (place : Place) → event ≢ AckCame → meets (Happens event) place ≡ true → is_here (place_after (Happens event) place) ≡ true
met_here event Unmade n h = absurd (never h)
met_here event Away n h = absurd (never h)
met_here (Asked why delay) (At Active) n h = refl
met_here TermCame (At Active) n h = refl
met_here DelimiterSeen (At Active) n h = refl
met_here AckCame place n h = absurd (n refl)
met_here (Asked why delay) (At DelimiterGot) n h = refl
met_here TermCame (At DelimiterGot) n h = refl
met_here DelimiterSeen (At DelimiterGot) n h = absurd (never h)
met_here (Asked why true) (At WaitDelimiter) n h = refl
met_here (Asked why false) (At WaitDelimiter) n h = refl
met_here TermCame (At WaitDelimiter) n h = absurd (never h)
met_here DelimiterSeen (At WaitDelimiter) n h = refl
met_here (Asked why delay) (At AckSent) n h = refl
met_here TermCame (At AckSent) n h = absurd (never h)
met_here DelimiterSeen (At AckSent) n h = absurd (never h)
met_here (Asked why delay) (At AskedOnce) n h = refl
met_here TermCame (At AskedOnce) n h = refl
met_here DelimiterSeen (At AskedOnce) n h = absurd (never h)
met_here (Asked why delay) (At AskedTwice) n h = refl
met_here TermCame (At AskedTwice) n h = absurd (never h)
met_here DelimiterSeen (At AskedTwice) n h = absurd (never h)
met_here (Asked why delay) (At Gone) n h = absurd (never h)
met_here TermCame (At Gone) n h = absurd (never h)
met_here DelimiterSeen (At Gone) n h = absurd (never h)

term_hears : (why : Reason) (delay : Bool) → TermCame ≢ Asked why delay
term_hears why delay e = Prim.grind arith

delimiter_hears : (why : Reason) (delay : Bool) → DelimiterSeen ≢ Asked why delay
delimiter_hears why delay e = Prim.grind arith

ack_hears : (why : Reason) (delay : Bool) → AckCame ≢ Asked why delay
ack_hears why delay e = Prim.grind arith

term_no_ack : TermCame ≢ AckCame
term_no_ack e = Prim.grind arith

delimiter_no_ack : DelimiterSeen ≢ AckCame
delimiter_no_ack e = Prim.grind arith

-- the end of an event after which the end is there
still_there : (c : Control) (event : EndEvent) (e : EndId) (at : ℕ) → Inv c.rows → may (Happens event) (end_half (pair c.rows e.pair.0) e.a) (end_half (pair c.rows e.pair.0) (not e.a)) ≡ true → event ≢ AckCame →
    KeptBut at (happens event e c) → owner_of c e ≡ at → AtOnce at (happens event e c).rows → Kept (happens event e c)
still_there c event e at fits comes no_ack all of now =
    let there = pair_there c.rows e.pair.0 e.a (Happens event) comes in
    let m = end_moved c event e there in
    let met = (moves_on (Happens event) e.a (pair c.rows e.pair.0) (pair_after (Happens event) e.a (pair c.rows e.pair.0)) (fits.phases e.pair.0) (moves_after (Happens event) e.a (pair c.rows e.pair.0) (fits.phases e.pair.0) comes)).1 in
    kept_at at (happens event e c) all now
    (end_keeps at (happens event e c) e.pair.0 e.a all (m.owners e.pair.0 e.a ∙ of)
    (here_not_past (end_half (pair (happens event e c).rows e.pair.0) e.a) (ap is_here m.here ∙ met_here event (place_of c e) no_ack met)))

-- ---- a delimiter
pub delimited_kept : (c : Control) (e : EndId) → Kept c → looks (place_of c e) ≡ true → Kept (happens DelimiterSeen e c)
delimited_kept c e kept look =
    let at = owner_of c e in
    let fits = inv_of (rows_of (kept_but at c kept)) in
    let all = happens_alone at c DelimiterSeen e (kept_but at c kept) look refl (λ ws. refl) in
    let there = pair_there c.rows e.pair.0 e.a (Happens DelimiterSeen) look in
    still_there c DelimiterSeen e at fits look delimiter_no_ack all refl
    (at_once_moved at DelimiterSeen e c (happens DelimiterSeen e c) delimiter_hears (end_moved c DelimiterSeen e there) (at_once at c.rows c.output_left kept.prompt))

-- ---- PipeTerm and PipeTermAck
module _ (c : Control) (kept : Kept c) (slot : ℕ) (rest : List Letter) (at : ℕ) (e : EndId) where
  abbrev half_now : Half
  half_now = end_half (pair c.rows e.pair.0) e.a

  but_mail_now : AllButMail at (without_front slot c)
  but_mail_now = record { rows = rows_of (kept_but at c kept); listed = kept.listed; names = kept.names }

  pub pipe_term_kept : (h : Answers) → c.boxes slot ≡ record { to = id at; word = PipeTerm e } ∷ rest → Kept (processed at (PipeTerm e) h (without_front slot c))
  pipe_term_kept h is = still_there (without_front slot c) TermCame e at (inv c kept slot rest) front.0 term_no_ack all front.1 now
    where
      first : Oldest (slot_of c.rows) (queue c.rows) c.boxes slot rest (EndLink e.pair.0 e.a) (record { to = at; sign = PipeTermSign })
      first = first_of c kept slot rest (record { to = id at; word = PipeTerm e }) is (EndLink e.pair.0 e.a) (record { to = at; sign = PipeTermSign }) (λ link. refl)

      front : (front_is_term half_now.mail ≡ true) × (end_owner (pair c.rows e.pair.0) e.a ≡ at) × (map (end_mark (end_owner (pair c.rows e.pair.0) e.a)) (behind_first half_now.mail) ≡ first.behind)
      front = pipe_term_front (end_owner (pair c.rows e.pair.0) e.a) half_now.mail at first.behind first.is_first

      all : KeptBut at (happens TermCame e (without_front slot c))
      all = happens_kept at (without_front slot c) TermCame e (one_now e.a first.behind (end_marks (pair c.rows e.pair.0))) _ but_mail_now front.0 front.1
          (end_now c.rows e.pair.0 e.a (end_marks (pair c.rows e.pair.0)) first.behind (queue c.rows) (rows_pair_queues c.rows e.pair.0))
          (left_over c kept slot rest (record { to = id at; word = PipeTerm e }) is (EndLink e.pair.0 e.a) (record { to = at; sign = PipeTermSign }) (λ link. refl))
          (one_here e.a first.behind (end_marks (pair c.rows e.pair.0)) ∙ sym front.2) (one_there e.a first.behind (end_marks (pair c.rows e.pair.0)))

      now : AtOnce at (happens TermCame e (without_front slot c)).rows
      now = at_once_moved at TermCame e (without_front slot c) (happens TermCame e (without_front slot c)) term_hears
          (end_moved (without_front slot c) TermCame e (pair_there c.rows e.pair.0 e.a (Happens TermCame) front.0)) (at_once at c.rows c.output_left kept.prompt)

  settle_kept : (counts : Option Settled) (d : Control) → KeptBut at d → KeptBut at (settle e counts d)
  settle_kept None d k = k
  settle_kept (Some counts) d k = record { reached = k.reached; shape = k.shape; prompt = k.prompt; delivered = k.delivered; listed = k.listed; names = k.names; pairs = k.pairs }

  settle_rows : (counts : Option Settled) (d : Control) → (settle e counts d).rows ≡ d.rows
  settle_rows None d = refl
  settle_rows (Some counts) d = refl

  pub pipe_ack_kept : (h : Answers) → c.boxes slot ≡ record { to = id at; word = PipeTermAck e } ∷ rest → Kept (processed at (PipeTermAck e) h (without_front slot c))
  pipe_ack_kept h is =
      try_end_kept at h.left (settle e h.counts (happens AckCame e (without_front slot c))) (settle_kept h.counts (happens AckCame e (without_front slot c)) all)
      (subst (AtOnce at) (sym (settle_rows h.counts (happens AckCame e (without_front slot c)))) now)
    where
      first : Oldest (slot_of c.rows) (queue c.rows) c.boxes slot rest (EndLink e.pair.0 e.a) (record { to = at; sign = PipeAckSign })
      first = first_of c kept slot rest (record { to = id at; word = PipeTermAck e }) is (EndLink e.pair.0 e.a) (record { to = at; sign = PipeAckSign }) (λ link. refl)

      front : (front_is_ack half_now.mail ≡ true) × (end_owner (pair c.rows e.pair.0) e.a ≡ at) × (map (end_mark (end_owner (pair c.rows e.pair.0) e.a)) (behind_first half_now.mail) ≡ first.behind)
      front = pipe_ack_front (end_owner (pair c.rows e.pair.0) e.a) half_now.mail at first.behind first.is_first

      all : KeptBut at (happens AckCame e (without_front slot c))
      all = happens_kept at (without_front slot c) AckCame e (one_now e.a first.behind (end_marks (pair c.rows e.pair.0))) _ but_mail_now front.0 front.1
          (end_now c.rows e.pair.0 e.a (end_marks (pair c.rows e.pair.0)) first.behind (queue c.rows) (rows_pair_queues c.rows e.pair.0))
          (left_over c kept slot rest (record { to = id at; word = PipeTermAck e }) is (EndLink e.pair.0 e.a) (record { to = at; sign = PipeAckSign }) (λ link. refl))
          (one_here e.a first.behind (end_marks (pair c.rows e.pair.0)) ∙ sym front.2) (one_there e.a first.behind (end_marks (pair c.rows e.pair.0)))

      now : AtOnce at (happens AckCame e (without_front slot c)).rows
      now = at_once_moved at AckCame e (without_front slot c) (happens AckCame e (without_front slot c)) ack_hears
          (end_moved (without_front slot c) AckCame e (pair_there c.rows e.pair.0 e.a (Happens AckCame) front.0)) (at_once at c.rows c.output_left kept.prompt)
