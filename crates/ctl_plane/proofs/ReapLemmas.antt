-- What a Reap in a mailbox says of its socket, and that it goes on bringing all of the socket's ends.
use Rattle.std.specs.Prelude.{◌≡◌, ◌<◌, ◌==◌, ◌&&◌, ◌||◌, ◌++◌, ◌∷◌, [], ℕ, zero, suc, Bool, true, false, not, cond, List, Option, Some, None, All, filter, map, length, slice_index_or, refl}
use Rattle.std.specs.List.{list_any}
use Rattle.std.proofs.Common.{arith, sym, ap, ◌∙◌, subst}
use Rattle.std.proofs.lemmas.Bool.{eq-eqb, eqb-true}
use Rattle.std.proofs.lemmas.List.Elements.{All-nil, All-cons, All-head, All-tail}
use Rattle.zq_base.specs.declared.ids.EndId.{EndId}
use Rattle.spec_control.specs.declared.end.Reason.{Reason}
use Rattle.spec_control.specs.declared.entry.Did.{Did}
use Rattle.spec_control.specs.declared.entry.Did.TheVariants.{Asked, Delivered, Delimited}
use Rattle.spec_control.specs.declared.entry.Item.{Item}
use Rattle.spec_control.specs.declared.entry.Joining.{Joining}
use Rattle.spec_control.specs.declared.letter.Letter.{Letter}
use Rattle.spec_control.specs.declared.letter.Word.{Word}
use Rattle.spec_control.specs.declared.letter.Word.TheVariants.{Own, Plug, TermReq, Term, TermAck, PipeBind, PipeTerm, PipeTermAck, Stop, Reap}
use Rattle.spec_control.specs.declared.object.ObjKind.{ObjKind}
use Rattle.spec_control.specs.declared.object.ObjKind.TheVariants.{Root, Socket, Listener, Session}
use Rattle.spec_control.specs.declared.request.Req.{Req}
use Rattle.spec_control.specs.declared.request.Req.TheVariants.{Socket as MakeSocket, AskTerm, Bind, Connect, Unbind, Disconnect, Close, Accepted, Shaken, AskEnd, AskOver, OutputOver}
use Rattle.spec_control.specs.Names.{name_of}
use Rattle.spec_control.specs.declared.end.EndState.{EndState}
use Rattle.spec_control.specs.Place.{Place, Unmade, Away, At, is_here}
use Rattle.spec_control.specs.Row.{Row, nobody, is_socket, is_session, is_listener, is_unowned}
use Rattle.spec_control.specs.Rows.{Rows, obj}
use Rattle.spec_control.specs.Stage.{has_ended, is_coming, is_finished}
use Rattle.spec_control.specs.Control.{Control, ends_of, met_in, next_pair, owner_of, place_of}
use Rattle.spec_control.specs.After.{after, owner_or_root}
use Rattle.spec_control.specs.ControlRun.{Fits, IsOpenSocket, Joins, MayAsk, is_between, reap_joins, taken_over}
use Rattle.spec_control.specs.Has.{acts_in_request}
use Rattle.control_laws.specs.Kept.{Kept}
use Rattle.control_laws.specs.Mail.{Sign, OwnSign, RequestSign, ReapSign, AckSign, PlugSign, StopSign, TermSign, BindSign, PipeTermSign, PipeAckSign, Mark, UpLink, marks, on_way, queue, slot_of}
use Rattle.control_laws.proofs.FrontLemmas.{up_list}
use Rattle.control_laws.proofs.RootLemmas.{oldest_lives}
use Rattle.control_laws.proofs.ListLemmas.{never, left, right, and, clash, placed}
use Rattle.control_laws.specs.Spared.{shown, Known, Spared, touched_in}
use Rattle.control_laws.proofs.EventLemmas.{others_spared}
use Rattle.desk.specs.declared.given.Given.{Given}
use Rattle.desk.specs.declared.given.Parting.{Parting}
use Rattle.desk.specs.declared.load.Load.{Load}
use Rattle.desk.specs.declared.load.Load.TheVariants.{Halves, Plug as BringsPlug, Writer, Ends}
use Rattle.desk.specs.Holding.{AreGivenAs, given_as}
use Rattle.desk.specs.Lent.{has_writer}
use Rattle.desk.specs.Load.{BringsEnds, Carries, GivesAll, BringsAll, ReapsAll}
use Rattle.ctl_state.specs.declared.command.Command.{Command}
use Rattle.ctl_state.specs.declared.state.State.{State}
use Rattle.ctl_state.specs.Boxes.{mail_at}
use Rattle.ctl_state.specs.Stands.{Stands}
use Rattle.ctl_plane.specs.Carried.{AreCarried}

-- ---- a Reap in a mailbox
abbrev is_reap : Sign → Bool
is_reap OwnSign = false
is_reap RequestSign = false
is_reap ReapSign = true
is_reap AckSign = false
is_reap PlugSign = false
is_reap StopSign = false
is_reap TermSign = false
is_reap BindSign = false
is_reap PipeTermSign = false
is_reap PipeAckSign = false

abbrev has_reap : List Mark → Bool
has_reap [] = false
has_reap (x ∷ xs) = is_reap x.sign || has_reap xs

reap_first : (xs ys : List Mark) → has_reap xs ≡ true → has_reap (xs ++ ys) ≡ true
reap_first [] ys h = absurd (never h)
reap_first (x ∷ xs) ys h = by (is_reap x.sign) h (reap_first xs ys)
  where
    by : (b : Bool) → (b || has_reap xs) ≡ true → (has_reap xs ≡ true → has_reap (xs ++ ys) ≡ true) → (b || has_reap (xs ++ ys)) ≡ true
    by true h2 rest = refl
    by false h2 rest = rest h2

reap_last : (xs ys : List Mark) → has_reap ys ≡ true → has_reap (xs ++ ys) ≡ true
reap_last [] ys h = h
reap_last (x ∷ xs) ys h = by (is_reap x.sign) (reap_last xs ys h)
  where
    by : (b : Bool) → has_reap (xs ++ ys) ≡ true → (b || has_reap (xs ++ ys)) ≡ true
    by true rest = refl
    by false rest = rest

-- a Reap is on its way from a closed socket alone
up_reap : (k : Bool) (w : ℕ) (n c g : Bool) → has_reap (up_list k w n c g) ≡ true → (k && c) ≡ true
up_reap true w n true g h = refl
up_reap false w true true true h = absurd (never h)
up_reap false w true true false h = absurd (never h)
up_reap false w false true true h = absurd (never h)
up_reap false w false true false h = absurd (never h)
up_reap k w true false true h = absurd (never h)
up_reap k w true false false h = absurd (never h)
up_reap k w false false true h = absurd (never h)
up_reap k w false false false h = absurd (never h)

-- the socket of a Reap was closed, and not taken over
abbrev pub ReapBetween : Rows → Word → Type 0
ReapBetween s (Own child) = Unit {0}
ReapBetween s (Plug end) = Unit {0}
ReapBetween s (TermReq child) = Unit {0}
ReapBetween s Term = Unit {0}
ReapBetween s (TermAck child) = Unit {0}
ReapBetween s (PipeBind e peer) = Unit {0}
ReapBetween s (PipeTerm e) = Unit {0}
ReapBetween s (PipeTermAck e) = Unit {0}
ReapBetween s Stop = Unit {0}
ReapBetween s (Reap socket) = is_between (obj s socket.0) ≡ true

all_between : (s : Rows) (letters : List Letter) → ((i : ℕ) → has_reap (on_way (UpLink i) letters) ≡ true → is_between (obj s i) ≡ true) → All (λ l. ReapBetween s l.word) letters
all_between s [] f = All-nil (λ l. ReapBetween s l.word)
all_between s (l ∷ ls) f =
    All-cons (λ x. ReapBetween s x.word) l ls (first l.to.0 l.word (λ i h. f i (reap_first (marks (UpLink i) l) (on_way (UpLink i) ls) h)))
    (all_between s ls (λ i h. f i (reap_last (marks (UpLink i) l) (on_way (UpLink i) ls) h)))
  where
    first : (to : ℕ) (word : Word) → ((i : ℕ) → has_reap (marks (UpLink i) (record { to = record { 0 = to }; word = word })) ≡ true → is_between (obj s i) ≡ true) → ReapBetween s word
    first to (Own child) g = tt
    first to (Plug end) g = tt
    first to (TermReq child) g = tt
    first to Term g = tt
    first to (TermAck child) g = tt
    first to (PipeBind e peer) g = tt
    first to (PipeTerm e) g = tt
    first to (PipeTermAck e) g = tt
    first to Stop g = tt
    first to (Reap socket) g = g socket.0 (ap {B = Bool} (λ (b : Bool). has_reap (cond b (record { to = to; sign = ReapSign } ∷ []) [])) (eq-eqb socket.0 socket.0 refl))

pub reaps_between : (c : Control) → Kept c → (m : ℕ) → All (λ l. ReapBetween c.rows l.word) (c.boxes m)
reaps_between c kept m = all_between c.rows (c.boxes m) of
  where
    of : (i : ℕ) → has_reap (on_way (UpLink i) (c.boxes m)) ≡ true → is_between (obj c.rows i) ≡ true
    of i h = by (slot_of c.rows (UpLink i) == m) (sym (ap has_reap (kept.delivered m (UpLink i))) ∙ h)
      where
        o : Row
        o = obj c.rows i

        by : (b : Bool) → has_reap (cond b (queue c.rows (UpLink i)) []) ≡ true → is_between (obj c.rows i) ≡ true
        by true some =
            up_reap (is_socket (obj c.rows i).kind) (owner_or_root (obj c.rows i).owner) (obj c.rows i).noted (is_coming (obj c.rows i).request)
            (is_finished (obj c.rows i).stage && not (is_unowned (obj c.rows i).owner)) some
        by false none = absurd (never none)

-- ---- what no event of another object changes
here_shown : (p : Place) → is_here (shown p) ≡ is_here p
here_shown Unmade = refl
here_shown Away = refl
here_shown (At state) = refl

met_shown : (p : Place) (reason : Option Reason) → met_in (shown p) reason ≡ met_in p reason
met_shown Unmade reason = refl
met_shown Away reason = refl
met_shown (At state) reason = refl

writer_shown : (p : Place) → has_writer (shown p) ≡ has_writer p
writer_shown Unmade = refl
writer_shown Away = refl
writer_shown (At state) = refl

-- an end of this object
pub record IsEndOf (c : Control) (i : ℕ) (e : EndId) : Type 0 where
  pub within : e.pair.0 < next_pair c
  pub owner : owner_of c e ≡ i

ends_within : (c : Control) (i : ℕ) (es : List EndId) → All (λ e. e.pair.0 < next_pair c) es → All (IsEndOf c i) (filter (λ e. owner_of c e == i) es)
ends_within c i [] known = All-nil (IsEndOf c i)
ends_within c i (e ∷ es) known = by (owner_of c e == i) refl (ends_within c i es (All-tail (λ x. x.pair.0 < next_pair c) e es known))
  where
    by : (b : Bool) → (owner_of c e == i) ≡ b → All (IsEndOf c i) (filter (λ x. owner_of c x == i) es) → All (IsEndOf c i) (cond b (e ∷ filter (λ x. owner_of c x == i) es) (filter (λ x. owner_of c x == i) es))
    by true mine rest =
        All-cons (IsEndOf c i) e (filter (λ x. owner_of c x == i) es) (record { within = All-head (λ x. x.pair.0 < next_pair c) e es known; owner = eqb-true (owner_of c e) i mine }) rest
    by false mine rest = rest

-- an end that looks to be in a state is
at_shown : (p : Place) (s : EndState) → shown p ≡ At s → p ≡ At s
at_shown Unmade s h = absurd (away_at h)
  where
    away_at : Away ≡ At s → ⊥
    away_at f = Prim.grind arith
at_shown Away s h = absurd (away_at h)
  where
    away_at : Away ≡ At s → ⊥
    away_at f = Prim.grind arith
at_shown (At state) s h = h

module _ (c d : Control) (i : ℕ) (known : Known c) (spared : Spared i c d) where
  mine : All (IsEndOf c i) (ends_of i c)
  mine = ends_within c i c.attached known

  here_same : (e : EndId) → IsEndOf c i e → is_here (place_of d e) ≡ is_here (place_of c e)
  here_same e of = sym (here_shown (place_of d e)) ∙ ap is_here (spared.places e of.within of.owner) ∙ here_shown (place_of c e)

  taken_same : (e : EndId) → IsEndOf c i e → taken_over d e ≡ taken_over c e
  taken_same e of =
      ap (λ (b : Bool). let x : Joins = record { end = e; peer = []; met = b } in x)
      (sym (met_shown (place_of d e) (d.reasons e)) ∙ ap (λ (p : Place). met_in p (d.reasons e)) (spared.places e of.within of.owner)
      ∙ met_shown (place_of c e) (d.reasons e) ∙ ap (λ (r : Option Reason). met_in (place_of c e) r) (spared.reasons e of.within of.owner))

  at_same : (e : EndId) (s : EndState) → IsEndOf c i e → place_of c e ≡ At s → place_of d e ≡ At s
  at_same e s of is = at_shown (place_of d e) s (spared.places e of.within of.owner ∙ ap shown is)

  writer_same : (e : EndId) → IsEndOf c i e → has_writer (place_of d e) ≡ has_writer (place_of c e)
  writer_same e of = sym (writer_shown (place_of d e)) ∙ ap has_writer (spared.places e of.within of.owner) ∙ writer_shown (place_of c e)

  joins_same : (es : List EndId) → All (IsEndOf c i) es → map (λ e. taken_over d e) (filter (λ e. is_here (place_of d e)) es) ≡ map (λ e. taken_over c e) (filter (λ e. is_here (place_of c e)) es)
  joins_same [] all = refl
  joins_same (e ∷ es) all =
      let first = All-head (IsEndOf c i) e es all in
      let rest = joins_same es (All-tail (IsEndOf c i) e es all) in
      ap (λ (b : Bool). map (λ x. taken_over d x) (cond b (e ∷ filter (λ x. is_here (place_of d x)) es) (filter (λ x. is_here (place_of d x)) es))) (here_same e first)
      ∙ by (is_here (place_of c e)) (taken_same e first) rest
    where
      by : (b : Bool) → taken_over d e ≡ taken_over c e → map (λ x. taken_over d x) (filter (λ x. is_here (place_of d x)) es) ≡ map (λ x. taken_over c x) (filter (λ x. is_here (place_of c x)) es) →
          map (λ x. taken_over d x) (cond b (e ∷ filter (λ x. is_here (place_of d x)) es) (filter (λ x. is_here (place_of d x)) es))
          ≡ map (λ x. taken_over c x) (cond b (e ∷ filter (λ x. is_here (place_of c x)) es) (filter (λ x. is_here (place_of c x)) es))
      by true one rest = ap (λ (x : Joins). x ∷ map (λ y. taken_over d y) (filter (λ y. is_here (place_of d y)) es)) one ∙ ap (λ (xs : List Joins). taken_over c e ∷ xs) rest
      by false one rest = rest

  pub reap_same : reap_joins d i ≡ reap_joins c i
  reap_same =
      ap (λ (es : List EndId). map (λ e. taken_over d e) (filter (λ e. is_here (place_of d e)) es)) spared.attached
      ∙ joins_same (ends_of i c) mine

all_taken : (c : Control) (i : ℕ) (es : List EndId) → All (IsEndOf c i) es → All (λ (x : Joins). IsEndOf c i x.end) (map (λ e. taken_over c e) (filter (λ e. is_here (place_of c e)) es))
all_taken c i [] all = All-nil (λ (x : Joins). IsEndOf c i x.end)
all_taken c i (e ∷ es) all = by (is_here (place_of c e)) (all_taken c i es (All-tail (IsEndOf c i) e es all))
  where
    by : (b : Bool) → All (λ (x : Joins). IsEndOf c i x.end) (map (λ x. taken_over c x) (filter (λ x. is_here (place_of c x)) es)) →
        All (λ (x : Joins). IsEndOf c i x.end) (map (λ x. taken_over c x) (cond b (e ∷ filter (λ x. is_here (place_of c x)) es) (filter (λ x. is_here (place_of c x)) es)))
    by true rest = All-cons (λ (x : Joins). IsEndOf c i x.end) (taken_over c e) (map (λ x. taken_over c x) (filter (λ x. is_here (place_of c x)) es)) (All-head (IsEndOf c i) e es all) rest
    by false rest = rest

pub all_of_map : {X Y : Type 0} (P : Y → Type 0) (f : X → Y) (xs : List X) → All P (map f xs) → All (λ x. P (f x)) xs
all_of_map P f [] all = All-nil (λ x. P (f x))
all_of_map P f (x ∷ xs) all = All-cons (λ y. P (f y)) x xs (All-head P (f x) (map f xs) all) (all_of_map P f xs (All-tail P (f x) (map f xs) all))

module _ {N O I : Type 0} (out_name : O → N) (in_name : I → N) where
  -- what a closed socket gives is of its ends
  pub gives_own : (c : Control) (i : ℕ) (p : Parting N O I) → Known c → AreGivenAs out_name in_name p.ends.items p.joined → GivesAll c i p → All (λ (g : Given N O I). IsEndOf c i g.end) p.ends.items
  gives_own c i p known listed all =
      all_of_map (λ (j : Joining N). IsEndOf c i j.end) (given_as out_name in_name) p.ends.items
      (subst (λ (js : List (Joining N)). All (λ (j : Joining N). IsEndOf c i j.end) js) listed
      (all_of_map (λ (x : Joins). IsEndOf c i x.end) (λ (j : Joining N). let x : Joins = record { end = j.end; peer = j.peer; met = j.met } in x) p.joined
      (subst (λ (xs : List Joins). All (λ (x : Joins). IsEndOf c i x.end) xs) (sym all.joined) (all_taken c i (ends_of i c) (ends_within c i c.attached known)))))

  gives_later : (c d : Control) (i : ℕ) (p : Parting N O I) → Known c → Spared i c d → AreGivenAs out_name in_name p.ends.items p.joined → GivesAll c i p → GivesAll d i p
  gives_later c d i p known spared listed all = record {
    joined = all.joined ∙ sym (reap_same c d i known spared);
    writers = λ k x lt. all.writers k x lt ∙ sym (writer_same c d i known spared _ (gives_own c i p known listed all k x lt));
    states = λ k x lt. at_same c d i known spared _ _ (gives_own c i p known listed all k x lt) (all.states k x lt);
  }

  module _ (names : EndId → Option N) (c d : Control) (known : Known c) (spared : (i : ℕ) → is_between (obj c.rows i) ≡ true → Spared i c d) where
    brings_later : (socket : ℕ) (load : Option (Load N O I)) → BringsEnds out_name in_name names load → is_between (obj d.rows socket) ≡ true → BringsAll c socket load → BringsAll d socket load
    brings_later socket (Some (Halves h)) ends between all = tt
    brings_later socket (Some (BringsPlug address halves)) ends between all = tt
    brings_later socket (Some (Writer o)) ends between all = tt
    brings_later socket (Some (Ends p)) ends between all = record { between = between; all = gives_later c d socket p known (spared socket all.between) ends.listed all.all }
    brings_later socket None ends between all = tt

    pub reaps_later : (word : Word) (load : Option (Load N O I)) → Carries out_name in_name names word load → ReapBetween d.rows word → ReapsAll c word load → ReapsAll d word load
    reaps_later (Own child) load is between all = tt
    reaps_later (Plug end) load is between all = tt
    reaps_later (TermReq child) load is between all = tt
    reaps_later Term load is between all = tt
    reaps_later (TermAck child) load is between all = tt
    reaps_later (PipeBind e peer) load is between all = tt
    reaps_later (PipeTerm e) load is between all = tt
    reaps_later (PipeTermAck e) load is between all = tt
    reaps_later Stop load is between all = tt
    reaps_later (Reap socket) load is between all = brings_later socket.0 load is between all

-- ---- an event is none of a closed socket's that nobody has taken over
some_same : {a b : ℕ} → Some a ≡ Some b → a ≡ b
some_same {a} h = ap (λ (o : Option ℕ). or a o) h
  where
    or : ℕ → Option ℕ → ℕ
    or d None = d
    or d (Some n) = n

none_is : {n : ℕ} → None ≡ Some n → ⊥
none_is h = Prim.grind arith

any_not : (p : Row → Bool) (xs : List Row) (k : ℕ) → list_any p xs ≡ false → k < length xs → p (slice_index_or xs k nobody) ≡ false
any_not p [] k h lt = absurd (omega arith)
any_not p (x ∷ xs) zero h lt = first (p x) h
  where
    first : (b : Bool) → (b || list_any p xs) ≡ false → b ≡ false
    first true f = f
    first false f = refl
any_not p (x ∷ xs) (suc k) h lt = any_not p xs k (rest (p x) h) (omega (arith, lt))
  where
    rest : (b : Bool) → (b || list_any p xs) ≡ false → list_any p xs ≡ false
    rest true f = absurd (never (sym f))
    rest false f = f

module _ (c : Control) (i : ℕ) (between : is_between (obj c.rows i) ≡ true) where
  is_a_socket : is_socket (obj c.rows i).kind ≡ true
  is_a_socket = left (is_socket (obj c.rows i).kind) (is_coming (obj c.rows i).request) between

  closed_is : is_coming (obj c.rows i).request ≡ true
  closed_is = right (is_socket (obj c.rows i).kind) (is_coming (obj c.rows i).request) between

  no_open : (o : ℕ) → IsOpenSocket (obj c.rows o) → Some o ≡ Some i → ⊥
  no_open o is_open h =
      clash (is_coming (obj c.rows i).request) closed_is (ap (λ (n : ℕ). is_coming (obj c.rows n).request) (sym (some_same h)) ∙ ap is_coming is_open.open_still)

  no_kind : (o : ℕ) → is_socket (obj c.rows o).kind ≡ false → Some o ≡ Some i → ⊥
  no_kind o none h = clash (is_socket (obj c.rows i).kind) is_a_socket (ap (λ (n : ℕ). is_socket (obj c.rows n).kind) (sym (some_same h)) ∙ none)

  session_no_socket : (k : ObjKind) → is_session k ≡ true → is_socket k ≡ false
  session_no_socket Root h = refl
  session_no_socket (Socket kind) h = absurd (never h)
  session_no_socket Listener h = refl
  session_no_socket Session h = refl

  listener_no_socket : (k : ObjKind) → is_listener k ≡ true → is_socket k ≡ false
  listener_no_socket Root h = refl
  listener_no_socket (Socket kind) h = absurd (never h)
  listener_no_socket Listener h = refl
  listener_no_socket Session h = refl

  no_request : (req : Req) → MayAsk c req → acts_in_request c req ≡ Some i → ⊥
  no_request (MakeSocket kind options) may_it h = none_is h
  no_request AskTerm may_it h = none_is h
  no_request (Bind o at) may_it h = no_open o.0 may_it h
  no_request (Connect o at) may_it h = no_open o.0 may_it h
  no_request (Unbind o at) may_it h = no_open o.0 may_it h
  no_request (Disconnect o at) may_it h = no_open o.0 may_it h
  no_request (Close o) may_it h = no_open o.0 may_it h
  no_request (Accepted o) may_it h = no_kind o.0 (listener_no_socket (obj c.rows o.0).kind may_it.0) h
  no_request (Shaken o peer) may_it h = no_kind o.0 (session_no_socket (obj c.rows o.0).kind may_it.session) h
  no_request (AskEnd e reason) may_it h = no_kind (owner_of c e) (session_no_socket (obj c.rows (owner_of c e)).kind may_it.session) h
  no_request (AskOver o) may_it h = no_kind o.0 may_it.no_socket h
  no_request (OutputOver o) may_it h = no_kind o.0 (session_no_socket (obj c.rows o.0).kind may_it.session) h

  pub untouched : {N S : Type 0} (did : Did N S) → Kept c → Fits c did → touched_in c did ≡ Some i → ⊥
  untouched (Asked req reply h) kept fits same = no_request req fits.may.0 same
  untouched (Delivered slot letter h) kept fits same =
      let o = oldest_lives c kept slot.0 letter.to.0 letter.word fits.may.behind fits.may.oldest in
      let there = placed (λ (r : Row). has_ended r.stage) c.rows.objects nobody letter.to.0 refl o.1 in
      let at = some_same same in
      let none = any_not (λ r. is_between r && r.slot == slot.0) c.rows.objects letter.to.0 fits.may.held there in
      clash (is_between (obj c.rows letter.to.0) && (obj c.rows letter.to.0).slot == slot.0)
      (and (is_between (obj c.rows letter.to.0)) ((obj c.rows letter.to.0).slot == slot.0) (ap (λ (n : ℕ). is_between (obj c.rows n)) at ∙ between) (eq-eqb (obj c.rows letter.to.0).slot slot.0 o.0)) none
  untouched (Delimited e h) kept fits same =
      clash (is_between (obj c.rows i)) between (ap (λ (n : ℕ). is_between (obj c.rows n)) (sym (some_same same)) ∙ fits.may.held)

module _ {N O I S : Type 0} (out_name : O → N) (in_name : I → N) where
  -- an event later, what is carried is carried
  pub carried_later : (items : List (Item N S)) (c : Control) (did : Did N S) (t : State (Load N O I)) → Kept c → Kept (after did c) → Known c → Fits c did → Stands t (after did c) →
      AreCarried out_name in_name items c t.boxes → AreCarried out_name in_name items (after did c) t.boxes
  carried_later items c did t kept kept_then known fits stands carried m = λ k x lt.
      (let one = carried m k x lt in record {
        carries = one.carries;
        reaps = reaps_later out_name in_name (name_of items) c (after did c) known (λ i between. others_spared i c kept known did fits (untouched c i between did kept fits)) _ _ one.carries (between_now k x lt) one.reaps;
      })
    where
      between_now : All (λ (command : Command (Load N O I)). ReapBetween (after did c).rows command.letter.word) (mail_at t.boxes m).commands
      between_now =
          all_of_map (λ (l : Letter). ReapBetween (after did c).rows l.word) (λ (command : Command (Load N O I)). command.letter) (mail_at t.boxes m).commands
          (subst (λ (ls : List Letter). All (λ (l : Letter). ReapBetween (after did c).rows l.word) ls) (sym (stands.boxes.each m)) (reaps_between (after did c) kept_then m))
