-- What a step of the rows keeps: nothing is left of an object that has ended.
use Rattle.std.specs.Prelude.{◌≡◌, ◌≢◌, ◌<◌, ◌≤◌, ◌&&◌, ◌||◌, ℕ, zero, suc, Bool, true, false, not, List, [], ◌∷◌, length, Some, refl}
use Rattle.std.proofs.Common.{arith, sym, ap, ◌∙◌, subst, inl, inr}
use Rattle.std.proofs.lemmas.List.{get_or_past}
use Rattle.std.proofs.lemmas.Bool.{cases_order}
use Rattle.spec_control.specs.declared.end.EndEvent.TheVariants.{Asked, TermCame, DelimiterSeen, AckCame}
use Rattle.spec_control.specs.declared.stage.Stage.{Stage}
use Rattle.spec_control.specs.declared.stage.Stage.TheVariants.{Alive, Told, Ending, Finished, Cleared}
use Rattle.spec_control.specs.declared.stage.Use.{Use}
use Rattle.spec_control.specs.declared.stage.Use.TheVariants.{Unused, OnItsWay, Used}
use Rattle.spec_control.specs.Stage.{is_alive, is_told, has_ended, is_finished, is_cleared, is_unused, is_coming, is_used}
use Rattle.spec_control.specs.Place.{EndWord, Half, is_gone, is_unmade}
use Rattle.spec_control.specs.PairPhase.{Over, half, PairEvent, Opens, BindCame, Happens, may, theirs_after}
use Rattle.spec_control.specs.Row.{Row, is_socket, is_unowned, GivesOwn, Requests, GivesAck, GetsPlug, GetsStop, GetsTerm, first_if, up_queue, down_queue, link_after, stage_fits, socket_fits, link_fits, is_over}
use Rattle.spec_control.specs.Rows.{PairRow, Rows, no_pair, root_alone, obj, pair, with_pair, end_place, end_owner, end_half, IsInPhase, PairMoves, Step, makes_object, draws_pair, opens_pair, link_moves, pair_moves, object_ends}
use Rattle.control_laws.specs.Reached.{IsReached, begins, goes_on, is_empty, is_past, NothingForEnded, ChildrenAndEndsFirst}
use Rattle.control_laws.proofs.ListLemmas.{never, clash, left, right, is_false, and}
use Rattle.control_laws.proofs.LinkLemmas.{not_over, at_stage, rest_fits, at_socket, both_owner, link_keeps, PairKeeps, pair_keeps, seen, moves_on}
use Rattle.control_laws.proofs.ClosedLemmas.{Inv, set_object, push_object, set_pair, push_pair, none_is_some, none_past, may_end_closed}

-- what an event of an end keeps
pub keeps_of : (s : Rows) (k : ℕ) (a : Bool) (e : PairEvent) → Inv s → e ≢ Opens → may e (end_half (pair s k) a) (end_half (pair s k) (not a)) ≡ true →
    PairKeeps e (end_half (pair s k) a) (end_half (pair s k) (not a))
keeps_of s k a e inv n comes =
    let v = seen (pair s k) (inv.phases k) a in
    let may_v = subst (λ (x : Half). may e x (half v.phase (not v.first)) ≡ true) v.mine (subst (λ (x : Half). may e (end_half (pair s k) a) x ≡ true) v.theirs comes) in
    subst (λ (x : Half). PairKeeps e x (end_half (pair s k) (not a))) (sym v.mine) (subst (λ (x : Half). PairKeeps e (half v.phase v.first) x) (sym v.theirs) (pair_keeps e v.phase v.first n may_v))

-- nothing comes to a pair that is not there
pub none_moves : (e : PairEvent) (x : Bool) → may e (end_half no_pair x) (end_half no_pair (not x)) ≡ false
none_moves Opens true = refl
none_moves Opens false = refl
none_moves BindCame true = refl
none_moves BindCame false = refl
none_moves (Happens (Asked why delay)) true = refl
none_moves (Happens (Asked why delay)) false = refl
none_moves (Happens TermCame) true = refl
none_moves (Happens TermCame) false = refl
none_moves (Happens DelimiterSeen) true = refl
none_moves (Happens DelimiterSeen) false = refl
none_moves (Happens AckCame) true = refl
none_moves (Happens AckCame) false = refl

pub pair_there : (s : Rows) (k : ℕ) (a : Bool) (e : PairEvent) → may e (end_half (pair s k) a) (end_half (pair s k) (not a)) ≡ true → k < length s.pairs
pair_there s k a e comes =
    elim (cases_order k (length s.pairs)) [
      | inl same ↦ past (omega (arith, same))
      | inr (inl below) ↦ below
      | inr (inr above) ↦ past (omega (arith, above))
    ]
  where
    past : length s.pairs ≤ k → k < length s.pairs
    past h = absurd (clash _ (subst (λ (q : PairRow). may e (end_half q a) (end_half q (not a)) ≡ true) (get_or_past s.pairs k no_pair h) comes) (none_moves e a))

-- each step keeps the invariant
pair_step : (s : Rows) (k : ℕ) (a : Bool) (e : PairEvent) (p : PairRow) → Inv s → e ≢ Opens → PairMoves e a (pair s k) p → Inv (with_pair k p s)
pair_step s k a e p inv n m = set_pair s k p inv (pair_there s k a e m.comes) (moves_on e a old p (inv.phases k) m).0 owners (λ x ended. stay a keeps m.theirs x)
  where
    old : PairRow
    old = pair s k

    keeps : PairKeeps e (end_half old a) (end_half old (not a))
    keeps = keeps_of s k a e inv n m.comes

    owners : (x : Bool) → end_owner p x ≡ end_owner old x
    owners true = m.a_owner
    owners false = m.b_owner

    stay : (b : Bool) → PairKeeps e (end_half old b) (end_half old (not b)) → end_half p (not b) ≡ theirs_after e (end_half old b) (end_half old (not b)) →
        (x : Bool) → is_past (end_half old x) ≡ true → is_past (end_half p x) ≡ true
    stay true k t true h = absurd (clash _ h k.busy)
    stay true k t false h = ap is_past t ∙ k.stays h
    stay false k t true h = ap is_past t ∙ k.stays h
    stay false k t false h = absurd (clash _ h k.busy)

pub preserved : (old new : Rows) → Inv old → Step old new → Inv new
preserved old new inv (makes_object w o unended owner alive fits e) = subst Inv (sym e) (push_object old w o inv unended owner fits (ap has_ended alive))
preserved old new inv (draws_pair p a b e) = subst Inv (sym e) (push_pair old p inv a b)
preserved old new inv (opens_pair k a p m x y e) =
    subst Inv (sym e) (set_pair old k p inv (pair_there old k a Opens m.comes) (moves_on Opens a (pair old k) p (inv.phases k) m).0 owners (λ z ended. absurd (clash _ ended (unended z))))
  where
    owners : (z : Bool) → end_owner p z ≡ end_owner (pair old k) z
    owners true = m.a_owner
    owners false = m.b_owner

    unended : (z : Bool) → has_ended (obj old (end_owner p z)).stage ≡ false
    unended true = x
    unended false = y
preserved old new inv (link_moves c e may is) =
    let k = link_keeps (obj old c) (inv.fits c) e may in
    subst Inv (sym is) (set_object old c (link_after e (obj old c)) inv k.busy k.owner k.fits (λ h. inv.closed c (sym k.stage ∙ h)))
preserved old new inv (pair_moves k a e p n m is) = subst Inv (sym is) (pair_step old k a e p inv n m)
preserved old new inv (object_ends c m is) =
    let o = obj old c in
    let rest = rest_fits o (inv.fits c) in
    let stage = sym (ap (λ (t : Stage). stage_fits t o.noted o.plugged o.request o.stop) m.asked) ∙ at_stage o (inv.fits c) in
    let alive = ap is_alive m.asked in
    let socket = subst (λ (b : Bool). socket_fits (is_socket o.kind) b (is_used o.request) (is_unused o.stop) ≡ true) alive (at_socket o (inv.fits c)) in
    subst Inv (sym is) (set_object old c (record o { stage = Finished }) inv (not_over o.stage o.noted o.request (ap is_cleared m.asked)) refl (and _ _ stage (and _ _ socket (both_owner o (inv.fits c)))) (λ h. may_end_closed old c inv m))

at_first : Inv root_alone
at_first = record { fits = fits; phases = phases; closed = λ i h. record { children = kids i; ends = ends i } }
  where
    fits : (c : ℕ) → link_fits (obj root_alone c) ≡ true
    fits zero = refl
    fits (suc c) = refl

    phases : (k : ℕ) → IsInPhase (pair root_alone k)
    phases zero = record { phase = Over; first = true; a_is = refl; b_is = refl }
    phases (suc k) = record { phase = Over; first = true; a_is = refl; b_is = refl }

    kids : (i d : ℕ) → (obj root_alone d).owner ≡ Some i → is_over (obj root_alone d) ≡ true
    kids i zero owned = absurd (none_is_some i owned)
    kids i (suc d) owned = refl

    ends : (i k : ℕ) (a : Bool) → end_owner (pair root_alone k) a ≡ i → is_past (end_half (pair root_alone k) a) ≡ true
    ends i zero a h = none_past a
    ends i (suc k) a h = none_past a

pub holds : (s : Rows) → IsReached s → Inv s
holds s begins = at_first
holds s (goes_on old new reached step) = preserved old new (holds old reached) step

-- what the invariant says of what is on its way
up_is_empty : (s : Stage) (n : Bool) (r : Use) (w : Bool) → (is_cleared s && (n && not (is_coming r))) ≡ true →
    first_if (not n) GivesOwn (first_if (is_coming r) Requests (first_if (is_finished s && w) GivesAck [])) ≡ []
up_is_empty Cleared true Unused w h = refl
up_is_empty Cleared true Used w h = refl
up_is_empty Cleared true OnItsWay w h = absurd (never h)
up_is_empty Cleared false r w h = absurd (never h)
up_is_empty Alive n r w h = absurd (never h)
up_is_empty Told n r w h = absurd (never h)
up_is_empty Ending n r w h = absurd (never h)
up_is_empty Finished n r w h = absurd (never h)

ended_queue : (p c : Bool) → p ≡ true → c ≡ false → first_if (not p) GetsPlug (first_if c GetsStop []) ≡ []
ended_queue true false h k = refl
ended_queue false c h k = absurd (never h)
ended_queue true true h k = absurd (never (sym k))

down_is_empty : (s : Stage) (n p : Bool) (r t : Use) → stage_fits s n p r t ≡ true → has_ended s ≡ true → first_if (not p) GetsPlug (first_if (is_coming t) GetsStop (first_if (is_told s) GetsTerm [])) ≡ []
down_is_empty Finished n p r t f h = ended_queue p (is_coming t) (left p _ f) (is_false _ (right p _ f))
down_is_empty Cleared n p r t f h = ended_queue p (is_coming t) (left p _ f) (is_false _ (left _ _ (right p _ f)))
down_is_empty Alive n p r t f h = absurd (never h)
down_is_empty Told n p r t f h = absurd (never h)
down_is_empty Ending n p r t f h = absurd (never h)

mail_is_empty : (ls : List EndWord) → is_empty ls ≡ true → ls ≡ []
mail_is_empty [] h = refl
mail_is_empty (l ∷ ls) h = absurd (never h)

pub cleared_has_ended : (s : Stage) (b : Bool) → (is_cleared s && b) ≡ true → has_ended s ≡ true
cleared_has_ended Cleared b h = refl
cleared_has_ended Alive b h = absurd (never h)
cleared_has_ended Told b h = absurd (never h)
cleared_has_ended Ending b h = absurd (never h)
cleared_has_ended Finished b h = absurd (never h)

pub up_of_over : (o : Row) → is_over o ≡ true → up_queue o ≡ []
up_of_over o h = up_is_empty o.stage o.noted o.request (not (is_unowned o.owner)) h

pub down_of_ended : (o : Row) → link_fits o ≡ true → has_ended o.stage ≡ true → down_queue o ≡ []
down_of_ended o fits ended = down_is_empty o.stage o.noted o.plugged o.request o.stop (at_stage o fits) ended

pub mail_of_past : (h : Half) → is_past h ≡ true → h.mail ≡ []
mail_of_past h past = mail_is_empty h.mail (right (is_gone h.place || is_unmade h.place) _ past)

pub nothing_for_ended : NothingForEnded
nothing_for_ended s i reached ended =
    let inv = holds s reached in
    let closed = inv.closed i ended in
    record {
      own = down_of_ended (obj s i) (inv.fits i) ended;
      children = λ c owned. up_of_over (obj s c) (closed.children c owned);
      ends = λ k a owned. mail_of_past (end_half (pair s k) a) (closed.ends k a owned);
    }

pub all_is_over : ChildrenAndEndsFirst
all_is_over s i reached ended =
    let closed = (holds s reached).closed i ended in
    record {
      children = λ c owned. cleared_has_ended (obj s c).stage _ (closed.children c owned);
      ends = λ k a owned. left (is_gone (end_place (pair s k) a) || is_unmade (end_place (pair s k) a)) _ (closed.ends k a owned);
    }
