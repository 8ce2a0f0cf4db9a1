-- What one call of a lent socket leaves standing: one on messages, one of a moment, and one of none.
use Rattle.std.proofs.Common.{◌≡◌, ◌≤◌, ◌∙◌, ◌&&◌, ◌||◌, ℕ, zero, suc, Bool, true, false, List, [], ◌∷◌, Some, None, All, filter, map, refl, sym, ap, subst, true≢false, if◌then◌else◌, arith}
use Rattle.std.specs.List.{list_any}
use Rattle.std.proofs.lemmas.List.Elements.{All-cons, All-nil}
use Rattle.zq_base.specs.declared.ids.EndId.{EndId}
use Rattle.spec_pattern.specs.PipeStep.{PipeStep, Seal}
use Rattle.spec_control.specs.Control.{Control, begun, ends_of, is_end, next_pair, place_of}
use Rattle.spec_control.specs.ControlRun.{after_all}
use Rattle.spec_control.specs.Names.{name_of}
use Rattle.spec_control.specs.Place.{is_here}
use Rattle.control_laws.proofs.AskLemmas.{end_self}
use Rattle.spec_control.specs.Held.{Held}
use Rattle.spec_control.specs.Moments.{Moment}
use Rattle.desk.specs.declared.given.Given.{Given}
use Rattle.ctl_plane.specs.Past.{control_of}
use Rattle.msg_pipe.specs.Known.{Known}
use Rattle.any_sock.specs.declared.any_sock.AnySock.{AnySock}
use Rattle.end_table.specs.Rows.{Rows, table}
use Rattle.end_table.specs.Runs.{DoesAll, seals}
use Rattle.end_table.specs.declared.changes.PipeChange.{PipeChange}
use Rattle.end_table.specs.Changes.{AreMakings}
use Rattle.end_table.specs.declared.table.EndTable.{EndTable}
use Rattle.end_table.specs.declared.table.Place.{Place}
use Rattle.end_table.specs.Others.{Leaves, had_at, wrote_at}
use Rattle.end_table.specs.Places.{held_in, held_of, place_at}
use Rattle.end_table.proofs.CallLemmas.{calls_leave}
use Rattle.sock_core.specs.declared.sock.SockCore.{SockCore}
use Rattle.sock_core.specs.Came.{AreChangedAt}
use Rattle.sock_core.specs.Has.{holding_in}
use Rattle.sock_core.proofs.FormLemmas.{sound_of}
use Rattle.sock_calls.specs.Calls.{DoesSo}
use Rattle.line_socket.specs.Standing.{kind_told}
use Rattle.spec_run.specs.Act.{Act, Step, moments_in}
use Rattle.spec_run.specs.Event.{acts_said, seals_in}
use Rattle.spec_run.specs.SocketCall.{step_acts}
use Rattle.socket_laws.specs.Open.{IsOfItem}
use Rattle.line_calls.proofs.StepLemmas.{no_moments}
use Rattle.plain_desk.specs.Lent.{Lent, moments_of}
use Rattle.socket_laws.proofs.SideLemmas.{begun_is, grows}
use Rattle.socket_laws.specs.Ends.{IsHeldFor}
use Rattle.socket_laws.specs.Places.{IsOwnPlace, is_end_of}
use Rattle.socket_laws.specs.OwnQuiet.{may_pair_by}
use Rattle.socket_laws.proofs.PlaceLemmas.{places_are_held}
use Rattle.socket_laws.specs.Asked.{WereAsked}
use Rattle.socket_laws.specs.Changes.{NamesGoOn}
use Rattle.socket_laws.proofs.NamesLemmas.{names_stand_on, names_stay}
use Rattle.socket_laws.specs.Calling.{AddsItem, IsCalledBy, LeavesIt, StandsOver}
use Rattle.socket_laws.proofs.DeskMessageLemmas.{message_calls_stand}
use Rattle.socket_laws.proofs.StandLemmas.{closes_stand, socket_calls_stand, still_calls_stand}
use Rattle.line_socket.specs.Owned.{IsLentTo, LentParts}
use Rattle.line_socket.specs.Called.{IsCalled}
use Rattle.line_socket.specs.Leaving.{LeavesPipes, LeavesStanding, NamesStandIn}
use Rattle.line_socket.specs.LeavingOwed.{found_by, led_more, run_more}
use Rattle.line_socket.specs.ReadersOwed.{held_told, here, own_ends}
use Rattle.line_socket.proofs.ChangedLemmas.{changes_tell}

none_some : {X : Type 0} {x : X} → None ≡ Some x → ⊥
none_some e = Prim.grind arith

some_is : {X : Type 0} {x y : X} → Some x ≡ Some y → x ≡ y
some_is e = Prim.grind arith

both : (a b : Bool) → (a && b) ≡ true → a ≡ true
both true b h = refl
both false b h = absurd (true≢false (sym h))

-- ---- the moment of acts

seals_silent : {N T : Type 0} (es : List EndId) → moments_in {N = N} {S = T} (map (λ e. Step (Seal e)) es) ≡ []
seals_silent [] = refl
seals_silent (e ∷ es) = seals_silent es

pub said_once : {N T : Type 0} (m : Moment N T) → moments_in (acts_said m) ≡ m ∷ []
said_once m = ap (λ l. m ∷ l) (seals_silent (seals_in m))

-- ---- some of these ends

pub among_filter : (f : EndId → Bool) (es : List EndId) (e : EndId) → list_any (is_end e) (filter f es) ≡ true → list_any (is_end e) es ≡ true
among_filter f [] e h = h
among_filter f (d ∷ es) e h = by (λ k. among_filter f es e k) (f d) refl where
  or_second : (b c : Bool) → c ≡ true → b || c ≡ true
  or_second true c x = refl
  or_second false c x = x

  or_both : (b c c' : Bool) → (c ≡ true → c' ≡ true) → b || c ≡ true → b || c' ≡ true
  or_both true c c' g x = refl
  or_both false c c' g x = g x

  by : (list_any (is_end e) (filter f es) ≡ true → list_any (is_end e) es ≡ true) → (b : Bool) → f d ≡ b → is_end e d || list_any (is_end e) es ≡ true
  by rest true is = or_both (is_end e d) (list_any (is_end e) (filter f es)) (list_any (is_end e) es) rest (sym (ap (λ (b : Bool). list_any (is_end e) (if b then d ∷ filter f es else filter f es)) is) ∙ h)
  by rest false is = or_second (is_end e d) (list_any (is_end e) es) (rest (sym (ap (λ (b : Bool). list_any (is_end e) (if b then d ∷ filter f es else filter f es)) is) ∙ h))

-- ---- places that were held

module _ {N I : Type 0} where
  wrote_held : (ps : List (Place N I)) (k : ℕ) (p : Place N I) → place_at ps k ≡ Some p → wrote_at ps k ≡ true → p.held ≡ true
  wrote_held [] k p at wrote = absurd (none_some at)
  wrote_held (x ∷ ps) zero p at wrote = ap (λ (y : Place N I). y.held) (sym (some_is at)) ∙ both x.held x.writes wrote
  wrote_held (x ∷ ps) (suc k) p at wrote = wrote_held ps k p at wrote

  had_held : (ps : List (Place N I)) (k : ℕ) (p : Place N I) → place_at ps k ≡ Some p → had_at ps k ≡ true → p.held ≡ true
  had_held [] k p at had = absurd (none_some at)
  had_held (x ∷ ps) zero p at had = ap (λ (y : Place N I). y.held) (sym (some_is at)) ∙ had
  had_held (x ∷ ps) (suc k) p at had = had_held ps k p at had

  -- an end that is held at a place is one of those that are held
  held_any : (ps : List (Place N I)) (k : ℕ) (p : Place N I) → place_at ps k ≡ Some p → p.held ≡ true → list_any (is_end p.end) (map (λ (x : Held N). x.end) (held_in ps)) ≡ true
  held_any [] k p at held = absurd (none_some at)
  held_any (x ∷ ps) zero p at held =
      let same : x ≡ p = some_is at in
      ap (λ (b : Bool). list_any (is_end p.end) (map (λ (y : Held N). y.end) (if b then held_of x ∷ held_in ps else held_in ps))) (ap (λ (y : Place N I). y.held) same ∙ held)
      ∙ ap (λ (b : Bool). b || list_any (is_end p.end) (map (λ (y : Held N). y.end) (held_in ps))) (ap (λ (y : Place N I). is_end p.end y.end) same ∙ end_self p.end)
  held_any (x ∷ ps) (suc k) p at held = by x.held (held_any ps k p at held)
    where
      or_true : (b : Bool) → (b || true) ≡ true
      or_true true = refl
      or_true false = refl

      by : (b : Bool) → list_any (is_end p.end) (map (λ (y : Held N). y.end) (held_in ps)) ≡ true → list_any (is_end p.end) (map (λ (y : Held N). y.end) (if b then held_of x ∷ held_in ps else held_in ps)) ≡ true
      by true rest = ap (λ (b : Bool). is_end p.end x.end || b) rest ∙ or_true (is_end p.end x.end)
      by false rest = rest

-- ---- of a lent socket

module _ {W N O I S T : Type 0} (K : Known S O I N) where
  abbrev lent_as : S → Lent (Given N O I) N T → SockCore AnySock W N O I → ℕ → LentParts W N O I S T
  lent_as pipes d s n = record { pipes = pipes; desk = d; socket = Some s; since = n }

  module _ (pipes : S) (d : Lent (Given N O I) N T) (n : ℕ) (s : SockCore AnySock W N O I) (is : IsLentTo K pipes d n s) (k : ℕ) (p : Place N I) (at : place_at s.ends.places.items k ≡ Some p) (held : p.held ≡ true) where
    abbrev o : ℕ
    o = s.number.0

    -- an end that is held is the socket's
    pub held_own : is_end_of o (control_of d.past) p.end ≡ true
    held_own =
        let now = after_all d.items (begun d.past.workers) in
        subst (λ (c : Control). is_end_of o c p.end ≡ true) (sym is.order.control)
        (among_filter (λ x. is_here (place_of now x)) (ends_of o now) p.end
        (ap (list_any (is_end p.end)) (sym (held_told K pipes d n s is)) ∙ held_any s.ends.places.items k p at held))

    -- with the names of its pipes
    pub held_for : IsHeldFor (control_of d.past) (name_of d.items) o p
    held_for =
        subst (λ (c : Control). IsHeldFor c (name_of d.items) o p) (sym is.order.control)
        (places_are_held N T I d.past.workers d.items is.order.order.run (name_of d.items) o (holding_in (kind_told s.kind) s) (here K pipes d n s is) s.ends.places.items
        (record { ends = own_ends K pipes d n s is; writes = λ e. refl }) k p at held)

  -- ---- behind a call on messages

  module _ (before now : S) (d : Lent (Given N O I) N T) (n : ℕ) (s : SockCore AnySock W N O I) (is : IsLentTo K before d n s) (steps : List PipeStep) (rows : Rows O I)
      (does : DoesAll K (table before s.ends.rows.items) steps (table now rows)) (none : seals steps ≡ false) where
    abbrev own : ℕ
    own = s.number.0

    stands : StandsOver K own d before (step_acts steps) d now
    stands = message_calls_stand AnySock W K kind_told T d before s is.order is.owned.has is.owned.held is.owned.stands.fits.sound steps now rows does

    -- its ends, of which none was settled
    abbrev alone : EndTable N O I
    alone = record s.ends { settled = record s.ends.settled { items = [] } }

    left : Leaves K before alone now alone
    left = calls_leave K steps (table before s.ends.rows.items) (table now rows) alone alone does none (sound_of K before s.ends.rows.items s.ends.places.items is.owned.stands.fits.sound) refl refl

    leaves : LeavesPipes K own d (control_of d.past) before now
    leaves = record {
      there = stands.there;
      outs = λ h was writes settled. left.outs h was
          (λ k q at wrote. let held = wrote_held s.ends.places.items k q at wrote in writes q.end q.written (held_own before d n s is k q at held) (held_for before d n s is k q at held).written)
          (All-nil _);
      ins = λ h was reads. left.ins h was
          (λ k q at had. let held = had_held s.ends.places.items k q at had in reads q.end q.read (held_own before d n s is k q at held) (held_for before d n s is k q at held).read);
    }

    pub stands_by_steps : (t : SockCore AnySock W N O I) → t.number.0 ≡ s.number.0 → LeavesStanding K (lent_as before d s n) (step_acts steps) (lent_as now d t n)
    stands_by_steps t owner = record {
      order = λ order. order;
      owner = owner;
      each = subst (λ (l : List (Moment N T)). All (λ (m : Moment N T). IsOfItem own m.found m.item) l) (sym (no_moments steps)) (All-nil _);
      there = stands.there;
      named = λ exact names. names_stay K (control_of d.past) (control_of d.past) (omega arith) (name_of d.items) (name_of d.items) (λ p. refl) before now stands.there names;
      at_ends = λ order. stands.at_ends;
      past = λ exact past was. stands.past exact past was;
      counted = λ exact past was counted. stands.counted exact past was counted;
      rest = λ order. record {
        pipes = leaves;
        unsealed = λ exact names e unnamed not_its reader h named. absurd (none_some (sym unnamed ∙ named));
      };
    }

  -- ---- behind a call on the control plane

  module _ {made : Bool} {may_make : EndId → ℕ → ℕ → Type 0} (before now : S) (d e : Lent (Given N O I) N T) (n : ℕ) (s t : SockCore AnySock W N O I) (is : IsLentTo K before d n s) (called : IsCalled K made may_make before d (Some s) now e (Some t)) where
    abbrev it : ℕ
    it = s.number.0

    abbrev pub does_so : DoesSo K made may_make before s now t
    does_so = called.does

    abbrev pub changes : List (PipeChange O I × S)
    changes = does_so.changes

    abbrev pub called_by : IsCalledBy K kind_told made may_make d before s e now t
    called_by = record {
      has = is.owned.has;
      holds = is.owned.held;
      keeps = called.keeps;
      number = called.owner;
      sound = is.owned.stands.fits.sound;
      others = called.others;
      does = called.does;
      were_asked = is.were_asked;
    }

    pairs_grow : next_pair (control_of d.past) ≤ next_pair (control_of e.past)
    pairs_grow =
        let on = (grows called.grows.more (found_by d e is.order called.order called.grows) (grows d.items (begun d.past.workers) (begun_is d.past.workers) is.order.order.run).1 (run_more d e is.order called.order called.grows)).0 in
        subst (λ (c : Control). next_pair c ≤ next_pair (control_of e.past)) (sym is.order.control)
        (subst (λ (c : Control). next_pair (found_by d e is.order called.order called.grows) ≤ next_pair c) (sym (led_more d e is.order called.order called.grows)) on.pairs)

    module _ (acts : List (Act N T)) (stand : StandsOver K it d before acts e now) (go : NamesGoOn K (control_of d.past) (control_of e.past) changes (name_of d.items) (name_of e.items))
        (own : AreChangedAt (λ k p. IsOwnPlace (control_of e.past) (name_of e.items) it p) 0 t.ends.places.items changes) (each : All (λ (m : Moment N T). IsOfItem it m.found m.item) (moments_in acts)) where
      stay : K.exact ≡ true → NamesStandIn K d before → NamesStandIn K e now
      stay exact names = names_stand_on K (control_of d.past) (control_of e.past) pairs_grow (name_of d.items) (name_of e.items) t.ends.places.items changes before now go does_so.does names

      stands_so : (k : ℕ) → LeavesStanding K (lent_as before d s n) acts (lent_as now e t k)
      stands_so k = record {
        order = λ order. called.order;
        owner = called.owner;
        each = each;
        there = stand.there;
        named = stay;
        at_ends = λ order. stand.at_ends;
        past = λ exact past was. stand.past exact past was;
        counted = λ exact past was counted. stand.counted exact past was counted;
        rest = λ order. changes_tell K it e t.ends.places.items d before now changes does_so.does own go stay;
      }

    one_of_it : (mo : Moment N T) → IsOfItem it mo.found mo.item → All (λ (m : Moment N T). IsOfItem it m.found m.item) (moments_in (acts_said mo))
    one_of_it mo of_it = subst (λ (l : List (Moment N T)). All (λ (m : Moment N T). IsOfItem it m.found m.item) l) (sym (said_once mo)) (All-cons (λ (m : Moment N T). IsOfItem it m.found m.item) mo [] of_it (All-nil _))

    -- of a moment
    module _ (held : (holding_in (kind_told t.kind) t).holds s.number.0 ≡ true) (mo : Moment N T) (adds : AddsItem K kind_told made may_make d before s e mo) where
      both_so : StandsOver K it d before (acts_said mo) e now × LeavesIt K kind_told it d e t changes
      both_so = socket_calls_stand AnySock W K kind_told T made may_make d before s e now t called_by held mo adds

      pub stands_by_moment : (k : ℕ) → LeavesStanding K (lent_as before d s n) (acts_said mo) (lent_as now e t k)
      stands_by_moment = stands_so (acts_said mo) both_so.0 both_so.1.names_go both_so.1.places (one_of_it mo adds.of_it)

      pub asked_by_moment : WereAsked (control_of e.past) (map (λ x. x.0) t.sealed.items)
      asked_by_moment = both_so.1.were_asked

    -- of none
    module _ (held : (holding_in (kind_told t.kind) t).holds s.number.0 ≡ true) (same : moments_of e ≡ moments_of d) where
      none_so : StandsOver K it d before [] e now × LeavesIt K kind_told it d e t changes
      none_so = still_calls_stand AnySock W K kind_told T made may_make d before s e now t called_by held (record { before = is.order; behind = called.order; grows = called.grows; same = same })

      pub stands_by_none : (k : ℕ) → LeavesStanding K (lent_as before d s n) [] (lent_as now e t k)
      stands_by_none = stands_so [] none_so.0 none_so.1.names_go none_so.1.places (All-nil _)

      pub asked_by_none : WereAsked (control_of e.past) (map (λ x. x.0) t.sealed.items)
      asked_by_none = none_so.1.were_asked

    -- of a moment that gave no pair its number, where pipes were made alone
    module _ (makings : AreMakings changes) (mo : Moment N T) (adds : AddsItem K kind_told made may_make d before s e mo) (free : may_pair_by mo.item ≡ false) where
      closed_so : StandsOver K it d before (acts_said mo) e now × LeavesIt K kind_told it d e t changes
      closed_so = closes_stand AnySock W K kind_told T made may_make d before s e now t called_by makings mo adds free

      pub stands_by_close : (k : ℕ) → LeavesStanding K (lent_as before d s n) (acts_said mo) (lent_as now e t k)
      stands_by_close = stands_so (acts_said mo) closed_so.0 closed_so.1.names_go closed_so.1.places (one_of_it mo adds.of_it)
