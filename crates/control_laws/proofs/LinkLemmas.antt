-- What an event keeps of one row, and of one pair.
use Rattle.std.specs.Prelude.{◌≡◌, ◌≢◌, ◌&&◌, ℕ, Bool, true, false, not, Option, Some, None, refl}
use Rattle.std.proofs.Common.{arith, sym, ap, ◌∙◌, subst}
use Rattle.spec_control.specs.declared.end.EndState.TheVariants.{Gone}
use Rattle.spec_control.specs.declared.end.EndEvent.TheVariants.{Asked, TermCame, DelimiterSeen, AckCame}
use Rattle.spec_control.specs.declared.object.ObjKind.{ObjKind}
use Rattle.spec_control.specs.declared.object.ObjKind.TheVariants.{Root, Socket, Listener, Session}
use Rattle.spec_control.specs.declared.stage.Stage.{Stage}
use Rattle.spec_control.specs.declared.stage.Stage.TheVariants.{Alive, Told, Ending, Finished, Cleared}
use Rattle.spec_control.specs.declared.stage.Use.{Use}
use Rattle.spec_control.specs.declared.stage.Use.TheVariants.{Unused, OnItsWay, Used}
use Rattle.spec_control.specs.Stage.{is_alive, is_told, has_ended, is_finished, is_cleared, is_unused, is_coming, is_used}
use Rattle.spec_control.specs.Place.{Place, At, Half, is_here, looks, waiting}
use Rattle.spec_control.specs.PairPhase.{Phase, Drawn, Opened, OpenedAsked, OpenedSeen, Both, BothSeen, BothSaw, AskedOne, Waits, Seen, Crossed, CrossedOne, CrossedBoth, Acked, FirstGone, LastOne, Over, place_in, half, PairEvent, Opens, BindCame, Happens, front_is_bind, front_is_term, front_is_ack, meets, may, mine_after, theirs_after}
use Rattle.spec_control.specs.Row.{Row, is_socket, is_unowned, LinkEvent, OwnComes, PlugComes, IsTold, TermComes, AsksOver, RequestComes, ReapComes, AckComes, RootAsked, StopPut, StopComes, AsksForLink, AsksForLinger, link_may, link_after, stage_fits, socket_fits, owner_fits, root_fits, link_fits, is_over}
use Rattle.spec_control.specs.Rows.{PairRow, end_place, end_half, IsInPhase, PairMoves}
use Rattle.spec_control.proofs.PhaseLemmas.{phases_are_closed}
use Rattle.control_laws.specs.Reached.{is_past}
use Rattle.control_laws.proofs.ListLemmas.{never, clash, left, right, is_false, and}

pub some_is : (m n : ℕ) → Some m ≡ Some n → m ≡ n
some_is m n e = Prim.grind arith

-- what an event between an object and its owner keeps
pub record LinkKeeps (e : LinkEvent) (o : Row) : Type 0 where
  pub fits : link_fits (link_after e o) ≡ true
  pub busy : is_over o ≡ false
  pub owner : (link_after e o).owner ≡ o.owner
  pub stage : has_ended (link_after e o).stage ≡ has_ended o.stage

-- an object that is over is no other
pub not_over : (s : Stage) (n : Bool) (r : Use) → is_cleared s ≡ false → (is_cleared s && (n && not (is_coming r))) ≡ false
not_over s n r h = ap (λ (b : Bool). b && (n && not (is_coming r))) h

unnoted_fits : (s : Stage) (n p : Bool) (r t : Use) → stage_fits s n p r t ≡ true → n ≡ false → (is_cleared s ≡ false) × (stage_fits s true p r t ≡ true)
unnoted_fits Alive n p r t h e = (refl, refl)
unnoted_fits Told n p r t h e = (refl, refl)
unnoted_fits Ending n p r t h e = (refl, h)
unnoted_fits Finished n p r t h e = (refl, h)
unnoted_fits Cleared n p r t h e = absurd (clash n (left n _ (right (not (is_coming t)) _ (right p _ h))) e)

unplugged_fits : (s : Stage) (n p : Bool) (r t : Use) → stage_fits s n p r t ≡ true → p ≡ false → (is_cleared s ≡ false) × (stage_fits s n true r t ≡ true)
unplugged_fits Alive n p r t h e = (refl, refl)
unplugged_fits Told n p r t h e = (refl, refl)
unplugged_fits Ending n p r t h e = absurd (clash p (left p _ h) e)
unplugged_fits Finished n p r t h e = absurd (clash p (left p _ h) e)
unplugged_fits Cleared n p r t h e = absurd (clash p (left p _ h) e)

coming_fits : (s : Stage) (n p : Bool) (r t : Use) → stage_fits s n p r t ≡ true → is_coming r ≡ true → (is_cleared s ≡ false) × (stage_fits s n p Used t ≡ true)
coming_fits Alive n p r t h e = (refl, refl)
coming_fits Told n p r t h e = (refl, refl)
coming_fits Ending n p r t h e = (refl, h)
coming_fits Finished n p r t h e = (refl, h)
coming_fits Cleared n p r t h e = absurd (clash (is_coming r) e (is_false _ (right n _ (right (not (is_coming t)) _ (right p _ h)))))

unended_fits : (s : Stage) (n p : Bool) (r q t : Use) → stage_fits s n p r t ≡ true → has_ended s ≡ false → (is_cleared s ≡ false) × (stage_fits s n p q t ≡ true)
unended_fits Alive n p r q t h e = (refl, refl)
unended_fits Told n p r q t h e = (refl, refl)
unended_fits Ending n p r q t h e = (refl, h)
unended_fits Finished n p r q t h e = absurd (never (sym e))
unended_fits Cleared n p r q t h e = absurd (never (sym e))

stopping_fits : (s : Stage) (n p : Bool) (r t : Use) → stage_fits s n p r t ≡ true → is_coming t ≡ true → (is_cleared s ≡ false) × (stage_fits s n p r Used ≡ true)
stopping_fits Alive n p r t h e = (refl, refl)
stopping_fits Told n p r t h e = (refl, refl)
stopping_fits Ending n p r t h e = absurd (clash (is_coming t) e (is_false _ (right p _ h)))
stopping_fits Finished n p r t h e = absurd (clash (is_coming t) e (is_false _ (right p _ h)))
stopping_fits Cleared n p r t h e = absurd (clash (is_coming t) e (is_false _ (left _ _ (right p _ h))))

finished_fits : (s : Stage) (n p : Bool) (r t : Use) → stage_fits s n p r t ≡ true → (is_finished s && (n && not (is_coming r))) ≡ true →
    (is_cleared s ≡ false) × (stage_fits Cleared n p r t ≡ true) × (has_ended s ≡ true) × (is_alive s ≡ false)
finished_fits Finished n p r t h e = (refl, and p _ (left p _ h) (and _ _ (right p _ h) e), refl, refl)
finished_fits Alive n p r t h e = absurd (never e)
finished_fits Told n p r t h e = absurd (never e)
finished_fits Ending n p r t h e = absurd (never e)
finished_fits Cleared n p r t h e = absurd (never e)

pub alive_is : (s : Stage) → is_alive s ≡ true → (is_cleared s ≡ false) × (has_ended s ≡ false)
alive_is Alive h = (refl, refl)
alive_is Told h = absurd (never h)
alive_is Ending h = absurd (never h)
alive_is Finished h = absurd (never h)
alive_is Cleared h = absurd (never h)

alive_fits : (s : Stage) (n p : Bool) (r t q : Use) → is_alive s ≡ true → stage_fits s n p r q ≡ true
alive_fits Alive n p r t q h = refl
alive_fits Told n p r t q h = absurd (never h)
alive_fits Ending n p r t q h = absurd (never h)
alive_fits Finished n p r t q h = absurd (never h)
alive_fits Cleared n p r t q h = absurd (never h)

told_is : (s : Stage) → is_told s ≡ true → (is_cleared s ≡ false) × (has_ended s ≡ false) × (is_alive s ≡ false)
told_is Told h = (refl, refl, refl)
told_is Alive h = absurd (never h)
told_is Ending h = absurd (never h)
told_is Finished h = absurd (never h)
told_is Cleared h = absurd (never h)

unended_is : (s : Stage) → has_ended s ≡ false → is_cleared s ≡ false
unended_is Alive h = refl
unended_is Told h = refl
unended_is Ending h = refl
unended_is Finished h = absurd (never (sym h))
unended_is Cleared h = absurd (never (sym h))

unused_is : (r : Use) → is_unused r ≡ true → (is_used r ≡ false) × (is_coming r ≡ false)
unused_is Unused h = (refl, refl)
unused_is OnItsWay h = absurd (never h)
unused_is Used h = absurd (never h)

-- a socket's part of a row, where one test of it is another
socket_part : (k a u t : Bool) (k' a' u' t' : Bool) → k ≡ k' → a ≡ a' → u ≡ u' → t ≡ t' → socket_fits k a u t ≡ true → socket_fits k' a' u' t' ≡ true
socket_part k a u t k' a' u' t' e f g i h =
    subst (λ (b : Bool). socket_fits b a' u' t' ≡ true) e (subst (λ (b : Bool). socket_fits k b u' t' ≡ true) f (subst (λ (b : Bool). socket_fits k a b t' ≡ true) g (subst (λ (b : Bool). socket_fits k a u b ≡ true) i h)))

-- of no socket only its Stop is asked
of_no_socket : (k a u t a' u' : Bool) → k ≡ false → socket_fits k a u t ≡ true → socket_fits k a' u' t ≡ true
of_no_socket false a u t a' u' e h = h
of_no_socket true a u t a' u' e h = absurd (never (sym e))

of_told_socket : (k t : Bool) → k ≡ true → socket_fits k false true t ≡ true
of_told_socket true t e = refl
of_told_socket false t e = absurd (never e)

of_socket_stop : (k a u t t' : Bool) → k ≡ true → socket_fits k a u t ≡ true → socket_fits k a u t' ≡ true
of_socket_stop true true u t t' e h = h
of_socket_stop true false u t t' e h = h
of_socket_stop false a u t t' e h = absurd (never e)

pub root_is : (k : ObjKind) (w : Option ℕ) → owner_fits k w ≡ true → is_unowned w ≡ true → is_socket k ≡ false
root_is Root w h e = refl
root_is Listener w h e = refl
root_is Session w h e = refl
root_is (Socket kind) None h e = absurd (never h)
root_is (Socket kind) (Some w) h e = absurd (never e)

-- a stop that is on its way is a socket's
stop_of_socket : (k a u : Bool) (t : Use) → socket_fits k a u (is_unused t) ≡ true → is_coming t ≡ true → k ≡ true
stop_of_socket true a u t h e = refl
stop_of_socket false a u t h e = absurd (clash (is_coming t) e (unused_is t h).1)

root_keeps : (u k k' : Bool) → (k ≡ true → k' ≡ true) → root_fits u k ≡ true → root_fits u k' ≡ true
root_keeps true k k' f h = f h
root_keeps false k k' f h = refl

module _ (o : Row) (fits : link_fits o ≡ true) where
  pub at_stage : stage_fits o.stage o.noted o.plugged o.request o.stop ≡ true
  at_stage = left _ _ fits

  abbrev known : Bool
  known = o.noted && (o.plugged && is_used o.request)

  abbrev owner_part : Bool
  owner_part = owner_fits o.kind o.owner && root_fits (is_unowned o.owner) known

  pub rest_fits : (socket_fits (is_socket o.kind) (is_alive o.stage) (is_used o.request) (is_unused o.stop) && owner_part) ≡ true
  rest_fits = right (stage_fits o.stage o.noted o.plugged o.request o.stop) _ fits

  pub at_socket : socket_fits (is_socket o.kind) (is_alive o.stage) (is_used o.request) (is_unused o.stop) ≡ true
  at_socket = left _ _ rest_fits

  pub both_owner : owner_part ≡ true
  both_owner = right (socket_fits (is_socket o.kind) (is_alive o.stage) (is_used o.request) (is_unused o.stop)) _ rest_fits

  pub at_owner : owner_fits o.kind o.owner ≡ true
  at_owner = left (owner_fits o.kind o.owner) (root_fits (is_unowned o.owner) known) both_owner

  pub at_root : root_fits (is_unowned o.owner) known ≡ true
  at_root = right (owner_fits o.kind o.owner) (root_fits (is_unowned o.owner) known) both_owner

  -- the owner's part of the row where what is known of it is no less
  owner_keeps : (k : Bool) → (known ≡ true → k ≡ true) → (owner_fits o.kind o.owner && root_fits (is_unowned o.owner) k) ≡ true
  owner_keeps k h = and _ _ at_owner (root_keeps (is_unowned o.owner) known k h at_root)

  pub link_keeps : (e : LinkEvent) → link_may e o ≡ true → LinkKeeps e o
  link_keeps OwnComes may =
      let w = unnoted_fits o.stage o.noted o.plugged o.request o.stop at_stage (is_false _ may) in
      record { fits = and _ _ w.1 (and _ _ at_socket (owner_keeps (o.plugged && is_used o.request) (λ h. right o.noted _ h))); busy = not_over o.stage o.noted o.request w.0; owner = refl; stage = refl }
  link_keeps PlugComes may =
      let w = unplugged_fits o.stage o.noted o.plugged o.request o.stop at_stage (is_false _ may) in
      record { fits = and _ _ w.1 (and _ _ at_socket (owner_keeps (o.noted && is_used o.request) (λ h. and _ _ (left o.noted _ h) (right o.plugged _ (right o.noted _ h))))); busy = not_over o.stage o.noted o.request w.0; owner = refl; stage = refl }
  link_keeps IsTold may =
      let w = alive_is o.stage (left _ _ may) in
      let k = is_false _ (right (is_alive o.stage) _ may) in
      record { fits = and _ _ (of_no_socket _ (is_alive o.stage) (is_used o.request) _ false (is_used o.request) k at_socket) both_owner; busy = not_over o.stage o.noted o.request w.0; owner = refl; stage = sym w.1 }
  link_keeps TermComes may =
      let w = told_is o.stage (left _ _ may) in
      record { fits = and _ _ (right (is_told o.stage) _ may) (and _ _ (subst (λ (b : Bool). socket_fits (is_socket o.kind) b (is_used o.request) (is_unused o.stop) ≡ true) w.2 at_socket) both_owner); busy = not_over o.stage o.noted o.request w.0; owner = refl; stage = sym w.1 }
  link_keeps AsksOver may =
      let u = unused_is o.request (left _ _ may) in
      let w = unended_fits o.stage o.noted o.plugged o.request OnItsWay o.stop at_stage (is_false _ (right (is_unused o.request) _ may)) in
      record { fits = and _ _ w.1 (and _ _ (subst (λ (b : Bool). socket_fits (is_socket o.kind) (is_alive o.stage) b (is_unused o.stop) ≡ true) u.0 at_socket) (owner_keeps (o.noted && (o.plugged && false)) (λ h. absurd (clash (is_used o.request) (right o.plugged _ (right o.noted _ h)) u.0)))); busy = not_over o.stage o.noted o.request w.0; owner = refl; stage = refl }
  link_keeps RequestComes may =
      let w = coming_fits o.stage o.noted o.plugged o.request o.stop at_stage (left _ _ may) in
      let k = is_false _ (right o.noted _ (right (is_coming o.request) _ may)) in
      record { fits = and _ _ w.1 (and _ _ (of_no_socket _ (is_alive o.stage) (is_used o.request) _ (is_alive o.stage) true k at_socket) (owner_keeps (o.noted && (o.plugged && true)) (λ h. and o.noted _ (left o.noted _ h) (and o.plugged true (left o.plugged _ (right o.noted _ h)) refl)))); busy = not_over o.stage o.noted o.request w.0; owner = refl; stage = refl }
  link_keeps ReapComes may =
      let w = alive_is o.stage (left _ _ (right (is_coming o.request) _ may)) in
      let k = right (is_alive o.stage) _ (right (is_coming o.request) _ may) in
      record { fits = and _ _ (of_told_socket _ (is_unused o.stop) k) (owner_keeps (o.noted && (o.plugged && true)) (λ h. and o.noted _ (left o.noted _ h) (and o.plugged true (left o.plugged _ (right o.noted _ h)) refl))); busy = not_over o.stage o.noted o.request w.0; owner = refl; stage = sym w.1 }
  link_keeps AckComes may =
      let w = finished_fits o.stage o.noted o.plugged o.request o.stop at_stage may in
      record { fits = and _ _ w.1 (and _ _ (subst (λ (b : Bool). socket_fits (is_socket o.kind) b (is_used o.request) (is_unused o.stop) ≡ true) w.3 at_socket) both_owner); busy = not_over o.stage o.noted o.request w.0; owner = refl; stage = sym w.2 }
  link_keeps RootAsked may =
      let w = alive_is o.stage (left _ _ may) in
      let u = left _ _ (right (is_alive o.stage) _ may) in
      let k = root_is o.kind o.owner at_owner u in
      record { fits = and _ _ (right (is_unowned o.owner) _ (right (is_alive o.stage) _ may)) (and _ _ (of_no_socket _ (is_alive o.stage) (is_used o.request) _ false (is_used o.request) k at_socket) both_owner); busy = not_over o.stage o.noted o.request w.0; owner = refl; stage = sym w.1 }
  link_keeps StopPut may =
      let k = left (is_socket o.kind) (is_alive o.stage) (right (is_unused o.request) _ (right (is_unused o.stop) _ may)) in
      let a = right (is_socket o.kind) (is_alive o.stage) (right (is_unused o.request) _ (right (is_unused o.stop) _ may)) in
      let w = alive_is o.stage a in
      record { fits = and _ _ (alive_fits o.stage o.noted o.plugged o.request o.stop OnItsWay a) (and _ _ (of_socket_stop (is_socket o.kind) (is_alive o.stage) (is_used o.request) (is_unused o.stop) false k at_socket) both_owner); busy = not_over o.stage o.noted o.request w.0; owner = refl; stage = refl }
  link_keeps StopComes may =
      let w = stopping_fits o.stage o.noted o.plugged o.request o.stop at_stage (left _ _ may) in
      let k = stop_of_socket (is_socket o.kind) (is_alive o.stage) (is_used o.request) o.stop at_socket (left _ _ may) in
      record { fits = and _ _ w.1 (and _ _ (of_socket_stop (is_socket o.kind) (is_alive o.stage) (is_used o.request) (is_unused o.stop) false k at_socket) both_owner); busy = not_over o.stage o.noted o.request w.0; owner = refl; stage = refl }
  link_keeps AsksForLink may =
      record { fits = fits; busy = not_over o.stage o.noted o.request (unended_is o.stage (is_false _ (right (not o.asked_link) _ may))); owner = refl; stage = refl }
  link_keeps AsksForLinger may =
      record { fits = fits; busy = not_over o.stage o.noted o.request (unended_is o.stage (is_false _ (right (not o.asked_linger) _ may))); owner = refl; stage = refl }

-- an end to which something happens is not past, and the other stays past if it was
pub record PairKeeps (e : PairEvent) (mine theirs : Half) : Type 0 where
  pub busy : is_past mine ≡ false
  pub stays : is_past theirs ≡ true → is_past (theirs_after e mine theirs) ≡ true

-- what comes to an end that is past: nothing but its making
past_is_idle : (e : PairEvent) (phase : Phase) (first : Bool) → e ≢ Opens → may e (half phase first) (half phase (not first)) ≡ true → place_in phase first ≡ At Gone → ⊥
past_is_idle Opens ph r n h g = absurd (n refl)
past_is_idle BindCame ph r n h g = never (sym (gone_mail (place_in ph r) (place_in ph (not r)) g) ∙ h)
  where
    gone_mail : (x y : Place) → x ≡ At Gone → front_is_bind (waiting x y) ≡ false
    gone_mail x y e = ap (λ (z : Place). front_is_bind (waiting z y)) e
past_is_idle (Happens (Asked why delay)) ph r n h g = never (sym (ap is_here g) ∙ h)
past_is_idle (Happens TermCame) ph r n h g = never (sym (ap (λ (z : Place). front_is_term (waiting z (place_in ph (not r)))) g) ∙ h)
past_is_idle (Happens DelimiterSeen) ph r n h g = never (sym (ap looks g) ∙ h)
past_is_idle (Happens AckCame) ph r n h g = never (sym (ap (λ (z : Place). front_is_ack (waiting z (place_in ph (not r)))) g) ∙ h)

drawn_is_idle : (e : PairEvent) (first : Bool) → e ≢ Opens → may e (half Drawn first) (half Drawn (not first)) ≡ true → ⊥
drawn_is_idle Opens r n h = n refl
drawn_is_idle BindCame r n h = never h
drawn_is_idle (Happens (Asked why delay)) r n h = never h
drawn_is_idle (Happens TermCame) r n h = never h
drawn_is_idle (Happens DelimiterSeen) r n h = never h
drawn_is_idle (Happens AckCame) r n h = never h

-- the end beside one that is past sends nothing more
pub pair_keeps : (e : PairEvent) (p : Phase) (r : Bool) → e ≢ Opens → may e (half p r) (half p (not r)) ≡ true → PairKeeps e (half p r) (half p (not r))
pair_keeps e Drawn r n h = absurd (drawn_is_idle e r n h)
pair_keeps e Opened true n h = record { busy = refl; stays = λ k. absurd (never k) }
pair_keeps e Opened false n h = record { busy = refl; stays = λ k. absurd (never k) }
pair_keeps e OpenedAsked true n h = record { busy = refl; stays = λ k. absurd (never k) }
pair_keeps e OpenedAsked false n h = record { busy = refl; stays = λ k. absurd (never k) }
pair_keeps e OpenedSeen true n h = record { busy = refl; stays = λ k. absurd (never k) }
pair_keeps e OpenedSeen false n h = record { busy = refl; stays = λ k. absurd (never k) }
pair_keeps e Both true n h = record { busy = refl; stays = λ k. absurd (never k) }
pair_keeps e Both false n h = record { busy = refl; stays = λ k. absurd (never k) }
pair_keeps e BothSeen true n h = record { busy = refl; stays = λ k. absurd (never k) }
pair_keeps e BothSeen false n h = record { busy = refl; stays = λ k. absurd (never k) }
pair_keeps e BothSaw true n h = record { busy = refl; stays = λ k. absurd (never k) }
pair_keeps e BothSaw false n h = record { busy = refl; stays = λ k. absurd (never k) }
pair_keeps e AskedOne true n h = record { busy = refl; stays = λ k. absurd (never k) }
pair_keeps e AskedOne false n h = record { busy = refl; stays = λ k. absurd (never k) }
pair_keeps e Waits true n h = record { busy = refl; stays = λ k. absurd (never k) }
pair_keeps e Waits false n h = record { busy = refl; stays = λ k. absurd (never k) }
pair_keeps e Seen true n h = record { busy = refl; stays = λ k. absurd (never k) }
pair_keeps e Seen false n h = record { busy = refl; stays = λ k. absurd (never k) }
pair_keeps e Crossed true n h = record { busy = refl; stays = λ k. absurd (never k) }
pair_keeps e Crossed false n h = record { busy = refl; stays = λ k. absurd (never k) }
pair_keeps e CrossedOne true n h = record { busy = refl; stays = λ k. absurd (never k) }
pair_keeps e CrossedOne false n h = record { busy = refl; stays = λ k. absurd (never k) }
pair_keeps e CrossedBoth true n h = record { busy = refl; stays = λ k. absurd (never k) }
pair_keeps e CrossedBoth false n h = record { busy = refl; stays = λ k. absurd (never k) }
pair_keeps e Acked true n h = record { busy = refl; stays = λ k. absurd (never k) }
pair_keeps e Acked false n h = record { busy = refl; stays = λ k. absurd (never k) }
pair_keeps e FirstGone true n h = absurd (past_is_idle e FirstGone true n h refl)
pair_keeps e LastOne true n h = absurd (past_is_idle e LastOne true n h refl)
pair_keeps e Over true n h = absurd (past_is_idle e Over true n h refl)
pair_keeps e Over false n h = absurd (past_is_idle e Over false n h refl)
pair_keeps Opens FirstGone false n h = absurd (n refl)
pair_keeps BindCame FirstGone false n h = absurd (never h)
pair_keeps (Happens (Asked why delay)) FirstGone false n h = record { busy = refl; stays = λ k. refl }
pair_keeps (Happens TermCame) FirstGone false n h = absurd (never h)
pair_keeps (Happens DelimiterSeen) FirstGone false n h = absurd (never h)
pair_keeps (Happens AckCame) FirstGone false n h = record { busy = refl; stays = λ k. refl }
pair_keeps Opens LastOne false n h = absurd (n refl)
pair_keeps BindCame LastOne false n h = absurd (never h)
pair_keeps (Happens (Asked why delay)) LastOne false n h = record { busy = refl; stays = λ k. refl }
pair_keeps (Happens TermCame) LastOne false n h = absurd (never h)
pair_keeps (Happens DelimiterSeen) LastOne false n h = absurd (never h)
pair_keeps (Happens AckCame) LastOne false n h = record { busy = refl; stays = λ k. refl }

-- an end of a pair in a phase, and the other, with what is on its way to them
pub record IsSeen (p : PairRow) (a : Bool) : Type 0 where
  pub phase : Phase
  pub first : Bool
  pub mine : end_half p a ≡ half phase first
  pub theirs : end_half p (not a) ≡ half phase (not first)

twice : (b : Bool) → not (not b) ≡ b
twice true = refl
twice false = refl

pub half_of : (x y v w : Place) → x ≡ v → y ≡ w → ◌≡◌ {A = Half} (record { place = x; mail = waiting x y }) (record { place = v; mail = waiting v w })
half_of x y v w e f = ap (λ (z : Place). record { place = z; mail = waiting z y }) e ∙ ap (λ (z : Place). record { place = v; mail = waiting v z }) f

pub seen : (p : PairRow) → IsInPhase p → (a : Bool) → IsSeen p a
seen p h true = record {
  phase = h.phase;
  first = h.first;
  mine = half_of _ _ _ _ h.a_is h.b_is;
  theirs = half_of _ _ _ _ h.b_is (h.a_is ∙ ap (place_in h.phase) (sym (twice h.first)));
}
seen p h false = record {
  phase = h.phase;
  first = not h.first;
  mine = half_of _ _ _ _ h.b_is (h.a_is ∙ ap (place_in h.phase) (sym (twice h.first)));
  theirs = half_of _ _ _ _ (h.a_is ∙ ap (place_in h.phase) (sym (twice h.first))) (h.b_is ∙ ap (place_in h.phase) (sym (twice (not h.first))));
}

pub place_is : (x y : Half) → x ≡ y → x.place ≡ y.place
place_is x y e = ap (λ (h : Half). h.place) e

pub phase_at : (p : PairRow) (x : Bool) (phase : Phase) (first : Bool) → end_place p x ≡ place_in phase first → end_place p (not x) ≡ place_in phase (not first) → IsInPhase p
phase_at p true phase first i j = record { phase = phase; first = first; a_is = i; b_is = j }
phase_at p false phase first i j = record { phase = phase; first = not first; a_is = j; b_is = i ∙ ap (place_in phase) (sym (twice first)) }

-- behind an event the pair is in a phase again
pub moves_on : (e : PairEvent) (a : Bool) (old new : PairRow) → IsInPhase old → PairMoves e a old new → IsInPhase new × (meets e (end_place old a) ≡ true)
moves_on e a old new h m =
    let v = seen old h a in
    let comes = subst (λ (x : Half). may e x (half v.phase (not v.first)) ≡ true) v.mine (subst (λ (x : Half). may e (end_half old a) x ≡ true) v.theirs m.comes) in
    let g = phases_are_closed e v.phase v.first comes in
    let mine = m.mine ∙ ap (mine_after e) v.mine ∙ sym g.mine_is in
    let theirs = m.theirs ∙ ap (λ (x : Half). theirs_after e x (end_half old (not a))) v.mine ∙ ap (theirs_after e (half v.phase v.first)) v.theirs ∙ sym g.theirs_is in
    (phase_at new a g.next g.first (place_is _ _ mine) (place_is _ _ theirs), ap (λ (x : Half). meets e x.place) v.mine ∙ g.met)
