-- What an item of an open socket does to it, by what its holder is told.
use Rattle.std.specs.Prelude.{◌≡◌, ◌≢◌, ◌==◌, ◌&&◌, ◌||◌, ℕ, Bool, true, false, not, List, [], ◌∷◌, ◌++◌, Some, None, All, map, refl}
use Rattle.std.specs.List.{list_any}
use Rattle.std.proofs.Common.{sym, ap, ◌∙◌, subst}
use Rattle.std.proofs.lemmas.List.Elements.{All-nil, All-append, All-weaker}
use Rattle.std.proofs.lemmas.List.Folds.{list_any-append}
use Rattle.zq_base.specs.declared.ids.EndId.{EndId}
use Rattle.spec_pattern.specs.PipeStep.{same_pipe}
use Rattle.spec_pattern.specs.Pattern.{Pattern}
use Rattle.spec_pattern.proofs.Exact.{same_pipes}
use Rattle.spec_control.specs.declared.letter.Word.{Word}
use Rattle.spec_control.specs.declared.letter.Word.TheVariants.{Own, Plug, TermReq, Term, TermAck, PipeBind, PipeTerm, PipeTermAck, Stop, Reap}
use Rattle.spec_control.specs.declared.entry.Joining.{Joining}
use Rattle.spec_control.specs.declared.entry.Did.{Did}
use Rattle.spec_control.specs.declared.entry.Did.TheVariants.{Asked, Delivered, Delimited}
use Rattle.spec_control.specs.declared.entry.Item.{Item}
use Rattle.spec_control.specs.declared.entry.Item.TheVariants.{Event, Seen}
use Rattle.spec_control.specs.Place.{is_here}
use Rattle.spec_control.specs.Control.{Control, begun, is_end, owner_of, place_of, ends_of}
use Rattle.spec_control.specs.After.{after}
use Rattle.spec_control.specs.ControlRun.{Fits, after_all}
use Rattle.spec_control.specs.Moments.{Moment, left_by}
use Rattle.control_laws.proofs.ListLemmas.{never}
use Rattle.control_laws.specs.Kept.{Kept}
use Rattle.control_laws.specs.OwnMoves.{own_moves, word_moves}
use Rattle.control_laws.specs.AttachedOnce.{AreOnce}
use Rattle.control_laws.proofs.LeadLemmas.{attached_by, goes_by, New, old_end, new_ends}
use Rattle.control_laws.proofs.AttachedLemmas.{attached_after}
use Rattle.control_laws.proofs.AttachedOnceLemmas.{IsOld, AreOld, old_run, ends_are_attached_once}
use Rattle.spec_pattern.specs.Peers.{listed_peers, kept_ends}
use Rattle.desk.specs.Turns.{turned_in}
use Rattle.desk.specs.Desk.{came_with, heard_with}
use Rattle.control_laws.proofs.HeldEventLemmas.{none_of, asked_stay}
use Rattle.spec_run.specs.OpenSocket.{OpenSock, SockEnd, is_out, had_out, leaves_in, stops, attach_all, detach_all, AreAnswered, sock_after}
use Rattle.sock_core.specs.Has.{is_stop}
use Rattle.sock_core.specs.Way.{outs_of}
use Rattle.any_sock.proofs.PlaceLemmas.{all_behind}
use Rattle.socket_laws.specs.Open.{ends_at, IsOf, moment_at, left_before, ComesTo}
use Rattle.socket_laws.specs.OpenEnds.{AreLeft, GoesOn}
use Rattle.socket_laws.specs.Peers.{IsNoPeer, IsIn, HasItsPeers}
use Rattle.socket_laws.specs.Passes.{IsPassed, ItemsPass}
use Rattle.socket_laws.proofs.OpenLemmas.{all_kept, above, after_more, run_last}
use Rattle.socket_laws.proofs.LeftLemmas.{open_ends_are_left}
use Rattle.socket_laws.proofs.StopLemmas.{its_stops}
use Rattle.socket_laws.proofs.GoLemmas.{open_before, ends_of_it, item_goes}
use Rattle.socket_laws.proofs.ToldLemmas.{pass_among}
use Rattle.socket_laws.proofs.ReadLemmas.{among_ends, old_ones}
use Rattle.socket_laws.proofs.EndLemmas.{all_both, turned_end, none_among, once_filter}
use Rattle.socket_laws.proofs.OutLemmas.{place_told, place_untold, ends_told_of, all_among, Step, Steps, old_step, new_step, detach_outs, once_left, kept_left, none_left, kept_come, once_come}

-- of ends that stand once the last are none of the first
once_apart : (xs ys : List EndId) → AreOnce (xs ++ ys) → All (λ y. list_any (is_end y) xs ≡ false) ys
once_apart [] ys once = λ k y lt. refl
once_apart (x ∷ xs) ys once =
    all_both (λ y. is_end x y ≡ false) (λ y. list_any (is_end y) xs ≡ false) (λ y. list_any (is_end y) (x ∷ xs) ≡ false)
    (λ y other none. ap (λ (b : Bool). b || list_any (is_end y) xs) (turned_end x y other) ∙ none) ys
    (all_behind (λ y. is_end x y ≡ false) xs ys (none_among x (xs ++ ys) once.0)) (once_apart xs ys once.1)

module _ (o slot : ℕ) (stopped : Bool) (p : Pattern) (was : Control) where
  abbrev pub socket : OpenSock
  socket = record { object = o; slot = slot; stopped = stopped; pattern = p; ends = ends_at o was }

  had_of : (e : EndId) → list_any (is_end e) (ends_of o was) ≡ true → had_out socket e ≡ is_out (place_of was e)
  had_of e among = ap is_out (place_told (place_of was) (ends_of o was) e among)

  had_none : (e : EndId) → list_any (is_end e) (ends_of o was) ≡ false → had_out socket e ≡ false
  had_none e none = ap is_out (place_untold (place_of was) (ends_of o was) e none)

  module _ {N S : Type 0} (m : Moment N S) (goes : GoesOn o was m) (once : AreOnce (ends_of o (left_by m))) (steps : Steps (place_of m.found) (place_of (left_by m)) (had_out socket) (ends_of o (left_by m)))
      (stops_so : list_any is_stop (heard_with m.item m.found (left_by m)) ≡ stops o m.item) (has : HasItsPeers socket) where
    abbrev d : Control
    d = left_by m

    abbrev js : List (Joining N)
    js = came_with m.item

    abbrev new : List EndId
    new = map (λ j. j.end) js

    abbrev come : Pattern
    come = attach_all js p

    once_ends : AreOnce (ends_of o was ++ new)
    once_ends = subst AreOnce goes.ends once

    known : All (λ y. list_any (is_end y) (ends_of o was) ≡ true) (kept_ends p)
    known = All-weaker (IsIn socket) (λ y. list_any (is_end y) (ends_of o was) ≡ true) (λ y is. sym (ends_told_of (place_of was) (ends_of o was) y) ∙ is.here) (kept_ends p) has.peers

    once_all : AreOnce (listed_peers come)
    once_all = once_come js (ends_of o was) p has.once known once_ends

    -- a peer is one of the socket's ends, and was not out of use
    record IsPeer (y : EndId) : Type 0 where
      in_use : had_out socket y ≡ false
      here : list_any (is_end y) (ends_of o d) ≡ true

    old_peers : All IsPeer (kept_ends p)
    old_peers =
        all_both (λ y. list_any (is_end y) (ends_of o was) ≡ true) (IsIn socket) IsPeer
        (λ y was_here is. record {
          in_use = is.in_use;
          here = ap (list_any (is_end y)) goes.ends ∙ list_any-append (is_end y) (ends_of o was) new ∙ ap (λ (b : Bool). b || list_any (is_end y) new) was_here;
        }) (kept_ends p) known has.peers

    new_peers : All IsPeer new
    new_peers =
        all_both (λ y. list_any (is_end y) (ends_of o was) ≡ false) (λ y. list_any (is_end y) (ends_of o d) ≡ true) IsPeer (λ y none is. record { in_use = had_none y none; here = is }) new
        (once_apart (ends_of o was) new once_ends)
        (all_behind (λ y. list_any (is_end y) (ends_of o d) ≡ true) (ends_of o was) new (subst (λ (es : List EndId). All (λ y. list_any (is_end y) (ends_of o d) ≡ true) es) goes.ends (all_among (ends_of o d))))

    all_peers : All IsPeer (kept_ends come)
    all_peers = kept_come IsPeer js p old_peers new_peers

    no_peer : (e : EndId) → had_out socket e ≡ true → IsNoPeer e come
    no_peer e out = All-weaker IsPeer (λ y. same_pipe e y ≡ false) other (kept_ends come) all_peers
      where
        other : (y : EndId) → IsPeer y → same_pipe e y ≡ false
        other y is = by (same_pipe e y) refl
          where
            by : (b : Bool) → same_pipe e y ≡ b → b ≡ false
            by true same = absurd (never (sym is.in_use ∙ (ap (had_out socket) (sym (same_pipes e y same)) ∙ out)))
            by false apart = refl

    same_left : detach_all (outs_of (turned_in m.found d)) come ≡ detach_all (leaves_in m socket) come
    same_left =
        ap (λ (ts : List _). detach_all (outs_of ts) come) goes.turns
        ∙ detach_outs (place_of m.found) (place_of d) (had_out socket) (ends_of o d) come steps once_all no_peer

    -- a peer that is left is in use
    left_peers : All (IsIn (sock_after m socket)) (kept_ends (detach_all (leaves_in m socket) come))
    left_peers =
        all_both IsPeer (λ y. list_any (is_end y) (leaves_in m socket) ≡ false) (IsIn (sock_after m socket))
        (λ y is stays. record {
          here = ends_told_of (place_of d) (ends_of o d) y ∙ is.here;
          in_use = ap is_out (place_told (place_of d) (ends_of o d) y is.here) ∙ still y is stays;
        }) (kept_ends (detach_all (leaves_in m socket) come)) (kept_left IsPeer (leaves_in m socket) come once_all all_peers) (none_left (leaves_in m socket) come once_all)
      where
        still : (y : EndId) → IsPeer y → list_any (is_end y) (leaves_in m socket) ≡ false → is_out (place_of d y) ≡ false
        still y is stays = by (is_out (place_of d y)) refl
          where
            by : (b : Bool) → is_out (place_of d y) ≡ b → b ≡ false
            by true out =
                absurd (never (sym stays ∙ among_ends (λ e. (is_out (place_of d e) && not (had_out socket e)) ≡ true → list_any (is_end e) (leaves_in m socket) ≡ true) (ends_of o d)
                (pass_among (λ e. is_out (place_of d e) && not (had_out socket e)) (ends_of o d)) y is.here
                (ap (λ (b : Bool). b && not (had_out socket y)) out ∙ ap not is.in_use)))
            by false off = refl

    pub passed : IsPassed m socket
    passed = record {
      stopped = ap (λ (b : Bool). stopped || b) (sym stops_so);
      pattern = ap (λ (xs : List (Joining N)). detach_all (leaves_in m socket) (attach_all xs p)) goes.joins ∙ sym same_left;
      ends = refl;
      peers = record {
        once = subst (λ (xs : List (Joining N)). AreOnce (listed_peers (detach_all (leaves_in m socket) (attach_all xs p)))) (sym goes.joins) (once_left (leaves_in m socket) come once_all);
        peers = subst (λ (xs : List (Joining N)). All (IsIn (sock_after m socket)) (kept_ends (detach_all (leaves_in m socket) (attach_all xs p)))) (sym goes.joins) left_peers;
      };
      passes = λ answered. (subst (λ (xs : List (Joining N)). AreAnswered xs p) (sym goes.joins) answered, refl);
    }

-- ---- an end that joins is there
no_end : (b : Bool) → ((b && false) || false) ≡ false
no_end true = refl
no_end false = refl

word_stay : (to : ℕ) (word : Word) → All (λ e. goes_by e (word_moves to word) ≡ false) (attached_by (word_moves to word))
word_stay to (Own child) = All-nil (λ e. goes_by e (word_moves to (Own child)) ≡ false)
word_stay to (Plug None) = All-nil (λ e. goes_by e (word_moves to (Plug None)) ≡ false)
word_stay to (Plug (Some d)) = none_of (λ e. goes_by e (word_moves to (Plug (Some d)))) (λ e. no_end (is_end e d)) (d ∷ [])
word_stay to (TermReq child) = All-nil (λ e. goes_by e (word_moves to (TermReq child)) ≡ false)
word_stay to Term = All-nil (λ e. goes_by e (word_moves to Term) ≡ false)
word_stay to (TermAck child) = All-nil (λ e. goes_by e (word_moves to (TermAck child)) ≡ false)
word_stay to (PipeBind d peer) = none_of (λ e. goes_by e (word_moves to (PipeBind d peer))) (λ e. no_end (is_end e d)) (d ∷ [])
word_stay to (PipeTerm d) = All-nil (λ e. goes_by e (word_moves to (PipeTerm d)) ≡ false)
word_stay to (PipeTermAck d) = All-nil (λ e. goes_by e (word_moves to (PipeTermAck d)) ≡ false)
word_stay to Stop = All-nil (λ e. goes_by e (word_moves to Stop) ≡ false)
word_stay to (Reap socket_id) = All-nil (λ e. goes_by e (word_moves to (Reap socket_id)) ≡ false)

module _ {N S : Type 0} where
  new_stay : (c : Control) (did : Did N S) → All (λ e. goes_by e (own_moves c did) ≡ false) (attached_by (own_moves c did))
  new_stay c (Asked req reply h) = none_of (λ e. goes_by e (own_moves c (Asked req reply h))) (λ e. asked_stay e c req reply) (attached_by (own_moves c (Asked req reply h)))
  new_stay c (Delivered slot letter h) = word_stay letter.to.0 letter.word
  new_stay c (Delimited d h) = All-nil (λ e. goes_by e (own_moves c (Delimited d h)) ≡ false)

-- ---- how its ends go in an item
module _ (o slot : ℕ) (stopped : Bool) (p : Pattern) (was c : Control) (left_so : AreLeft o was c) (old : AreOld c) where
  -- an end that the socket had
  record IsHad (e : EndId) : Type 0 where
    old_end : IsOld c e
    had : had_out (socket o slot stopped p was) e ≡ is_out (place_of c e)

  all_had : All IsHad (ends_of o c)
  all_had =
      all_both (IsOld c) (λ e. had_out (socket o slot stopped p was) e ≡ is_out (place_of c e)) IsHad (λ e is out. record { old_end = is; had = out }) (ends_of o c) (old_ones c o old)
      (all_both (λ e. place_of was e ≡ place_of c e) (λ e. list_any (is_end e) (ends_of o was) ≡ true) (λ e. had_out (socket o slot stopped p was) e ≡ is_out (place_of c e))
      (λ e place is. had_of o slot stopped p was e is ∙ ap is_out place) (ends_of o c) left_so.places (subst (λ (es : List EndId). All (λ e. list_any (is_end e) (ends_of o was) ≡ true) es) left_so.ends (all_among (ends_of o was))))

  seen_steps : Steps (place_of c) (place_of c) (had_out (socket o slot stopped p was)) (ends_of o c)
  seen_steps =
      All-weaker IsHad (λ e. Step e (place_of c e) (place_of c e) (had_out (socket o slot stopped p was) e))
      (λ e is. subst (λ (b : Bool). Step e (place_of c e) (place_of c e) b) (sym is.had) (old_step e (place_of c e) (place_of c e) is.old_end.at is.old_end.at)) (ends_of o c) all_had

  module _ {N S : Type 0} (kept : Kept c) (not_root : o ≢ 0) (did : Did N S) (fits : Fits c did) (of_it : IsOf o c did) (once : AreOnce (after did c).attached) where
    abbrev d2 : Control
    d2 = after did c

    abbrev fresh : List EndId
    fresh = attached_by (own_moves c did)

    abbrev StepOf : EndId → Type 0
    StepOf e = Step e (place_of c e) (place_of d2 e) (had_out (socket o slot stopped p was) e)

    old_steps : All StepOf (ends_of o c)
    old_steps =
        All-weaker IsHad StepOf
        (λ e is. subst (λ (b : Bool). Step e (place_of c e) (place_of d2 e) b) (sym is.had) (old_step e (place_of c e) (place_of d2 e) is.old_end.at (old_end c did kept fits e is.old_end.within is.old_end.at).at)) (ends_of o c) all_had

    -- the list with those that join
    once_here : AreOnce (c.attached ++ fresh)
    once_here = subst AreOnce (attached_after c did) once

    its_once : AreOnce (ends_of o c ++ fresh)
    its_once = subst AreOnce (ends_of_it c kept o not_root old did fits of_it) (once_filter (λ e. owner_of d2 e == o) d2.attached once)

    new_steps : All StepOf fresh
    new_steps =
        all_both (λ e. is_here (place_of d2 e) ≡ true) (λ e. (is_here (place_of c e) ≡ false) × (had_out (socket o slot stopped p was) e ≡ false)) StepOf
        (λ e here off. subst (λ (b : Bool). Step e (place_of c e) (place_of d2 e) b) (sym off.1) (new_step e (place_of c e) (place_of d2 e) off.0 here)) fresh
        (all_both (New (own_moves c did) d2) (λ e. goes_by e (own_moves c did) ≡ false) (λ e. is_here (place_of d2 e) ≡ true) (λ e is stays. is.there stays) fresh (new_ends c did kept fits) (new_stay c did))
        (all_both (λ e. list_any (is_end e) c.attached ≡ false) (λ e. list_any (is_end e) (ends_of o was) ≡ false) (λ e. (is_here (place_of c e) ≡ false) × (had_out (socket o slot stopped p was) e ≡ false))
        (λ e off none. (away e off, had_none o slot stopped p was e none)) fresh (once_apart c.attached fresh once_here)
        (once_apart (ends_of o was) fresh (subst (λ (es : List EndId). AreOnce (es ++ fresh)) (sym left_so.ends) its_once)))
      where
        away : (e : EndId) → list_any (is_end e) c.attached ≡ false → is_here (place_of c e) ≡ false
        away e none = by (is_here (place_of c e)) refl
          where
            by : (b : Bool) → is_here (place_of c e) ≡ b → b ≡ false
            by true there = absurd (never (sym none ∙ kept.listed e.pair.0 e.a there))
            by false off = refl

    event_steps : Steps (place_of c) (place_of d2) (had_out (socket o slot stopped p was)) (ends_of o d2)
    event_steps = subst (λ (es : List EndId). All StepOf es) (sym (ends_of_it c kept o not_root old did fits of_it)) (All-append StepOf (ends_of o c) fresh old_steps new_steps)

module _ {N S : Type 0} (io : ℕ) (before : List (Item N S)) where
  attached_once : (item : Item N S) (o : ℕ) → ComesTo io before item o → AreOnce (left_by (moment_at io before item)).attached
  attached_once item o comes_so = subst (λ (c : Control). AreOnce c.attached) (after_more before item (begun io)) (ends_are_attached_once N S io (before ++ item ∷ []) comes_so.run)

  item_passes : (item : Item N S) (o slot : ℕ) (stopped : Bool) (p : Pattern) → ComesTo io before item o → HasItsPeers (socket o slot stopped p (left_before io before item o)) →
      IsPassed (moment_at io before item) (socket o slot stopped p (left_before io before item o))
  item_passes (Event entry) o slot stopped p comes_so has =
      let item = Event entry in
      let open_so = open_before io before item o comes_so in
      let c = after_all before (begun io) in
      let kept = all_kept io before entry.by o open_so in
      let old = old_run io before open_so.run in
      let once = attached_once item o comes_so in
      passed o slot stopped p (left_before io before item o) (moment_at io before item) (item_goes io before item o comes_so)
      (once_filter (λ e. owner_of (after entry.did c) e == o) (after entry.did c).attached once)
      (event_steps o slot stopped p (left_before io before item o) c (open_ends_are_left N S io before entry.by o open_so) old kept (above io before entry.by o open_so) entry.did (run_last before item (begun io) comes_so.run) comes_so.of_it once)
      (its_stops o c item c (after entry.did c) comes_so.of_it) has
  item_passes (Seen sight) o slot stopped p comes_so has =
      let item = Seen sight in
      let open_so = open_before io before item o comes_so in
      let c = after_all before (begun io) in
      let old = old_run io before open_so.run in
      passed o slot stopped p (left_before io before item o) (moment_at io before item) (item_goes io before item o comes_so)
      (once_filter (λ e. owner_of c e == o) c.attached (attached_once item o comes_so))
      (seen_steps o slot stopped p (left_before io before item o) c (open_ends_are_left N S io before sight.by o open_so) old) refl has

pub items_pass : (N S : Type 0) → ItemsPass N S
items_pass N S io before item o comes_so s object_is ends_are has =
    subst (IsPassed (moment_at io before item)) (sym is)
    (item_passes io before item o s.slot s.stopped s.pattern comes_so (subst HasItsPeers is has))
  where
    is : s ≡ socket o s.slot s.stopped s.pattern (left_before io before item o)
    is =
        ap (λ (n : ℕ). let x : OpenSock = record { object = n; slot = s.slot; stopped = s.stopped; pattern = s.pattern; ends = s.ends } in x) object_is
        ∙ ap (λ (es : List SockEnd). let x : OpenSock = record { object = o; slot = s.slot; stopped = s.stopped; pattern = s.pattern; ends = es } in x) ends_are
