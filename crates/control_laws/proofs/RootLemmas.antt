-- A context at its making, and a quiescent one.
use Rattle.std.specs.Prelude.{◌≡◌, ◌⊎◌, ◌<◌, ◌==◌, ◌&&◌, ℕ, zero, suc, Bool, true, false, not, cond, List, [], ◌∷◌, ◌++◌, map, Option, Some, None, refl}
use Rattle.std.proofs.Common.{arith, sym, ap, ◌∙◌, inl, inr}
use Rattle.std.proofs.lemmas.Bool.{eq-eqb, eqb-true}
use Rattle.spec_control.specs.declared.object.ObjKind.{ObjKind}
use Rattle.spec_control.specs.declared.object.ObjKind.TheVariants.{Root, Socket as IsSocket, Listener, Session}
use Rattle.spec_control.specs.declared.stage.Stage.TheVariants.{Alive, Ending, Cleared}
use Rattle.spec_control.specs.declared.stage.Use.{Use}
use Rattle.spec_control.specs.declared.stage.Use.TheVariants.{Unused, OnItsWay, Used}
use Rattle.spec_control.specs.declared.letter.Letter.{Letter}
use Rattle.spec_control.specs.declared.letter.Word.{Word}
use Rattle.spec_control.specs.declared.letter.Word.TheVariants.{Own, Plug, TermReq, Term, TermAck, PipeBind, PipeTerm, PipeTermAck, Stop, Reap}
use Rattle.spec_control.specs.Stage.{is_alive, is_ending, has_ended, is_unused, is_coming, is_used, is_finished}
use Rattle.spec_control.specs.Place.{EndWord, Binds, Terms, Acks, is_here, was_ended}
use Rattle.spec_control.specs.Row.{Row, Up, GivesOwn, Requests, GivesAck, Down, GetsPlug, GetsStop, GetsTerm, root_fits, link_fits, nobody, root_row, is_socket, is_unowned, reads_on, owner_fits, socket_fits, first_if, up_queue, down_queue}
use Rattle.spec_control.specs.Rows.{Rows, PairRow, no_pair, root_alone, obj, pair, end_place, end_owner, end_half}
use Rattle.spec_control.specs.Control.{Control, begun, id}
use Rattle.spec_control.specs.After.{owner_or_root}
use Rattle.spec_control.specs.ControlRun.{after_all}
use Rattle.spec_control.specs.Quiescence.{IsQuiescent}
use Rattle.control_laws.specs.Reached.{IsReached, begins}
use Rattle.control_laws.specs.Prompt.{IsStill}
use Rattle.control_laws.specs.Mail.{Mark, Sign, up_mark, down_mark, end_mark, OwnSign, RequestSign, ReapSign, AckSign, PlugSign, StopSign, TermSign, BindSign, PipeTermSign, PipeAckSign, Link, UpLink, DownLink, EndLink, is_link, marks, on_way, up_marks, down_marks, end_marks, queue, addressee, slot_of}
use Rattle.control_laws.specs.Kept.{Kept}
use Rattle.control_laws.specs.Laws.{RunsAreKept, QuiescentRootHasEnded, DeliveredToLiving}
use Rattle.control_laws.proofs.ListLemmas.{never, clash, left, right}
use Rattle.control_laws.proofs.LinkLemmas.{at_owner, at_root, at_socket}
use Rattle.control_laws.proofs.ClosedLemmas.{Inv, none_is_some}
use Rattle.control_laws.proofs.RowLemmas.{nothing_for_ended}
use Rattle.control_laws.proofs.MailLemmas.{shown, full, link_self}
use Rattle.control_laws.proofs.QuietLemmas.{root_ended}
use Rattle.control_laws.proofs.TellLemmas.{rows_of}
use Rattle.control_laws.proofs.StepLemmas.{inv_of}
use Rattle.control_laws.proofs.EndLemmas.{kept_but}
use Rattle.control_laws.proofs.RunLemmas.{run_kept}

-- ---- a context at its making
row_at_begin : (i : ℕ) → (obj root_alone i ≡ root_row) ⊎ (obj root_alone i ≡ nobody)
row_at_begin zero = inl refl
row_at_begin (suc i) = inr (past i)
  where
    past : (i : ℕ) → obj root_alone (suc i) ≡ nobody
    past zero = refl
    past (suc i) = refl

pair_at_begin : (k : ℕ) → pair root_alone k ≡ no_pair
pair_at_begin zero = refl
pair_at_begin (suc zero) = refl
pair_at_begin (suc (suc k)) = refl

owner_at_begin : (i : ℕ) → (obj root_alone i).owner ≡ None
owner_at_begin i =
    elim (row_at_begin i) [
      | inl e ↦ ap (λ (o : Row). o.owner) e
      | inr e ↦ ap (λ (o : Row). o.owner) e
    ]

unasked_at_begin : (i : ℕ) → ((obj root_alone i).stage ≡ Alive) ⊎ ((obj root_alone i).stage ≡ Cleared)
unasked_at_begin i =
    elim (row_at_begin i) [
      | inl e ↦ inl (ap (λ (o : Row). o.stage) e)
      | inr e ↦ inr (ap (λ (o : Row). o.stage) e)
    ]

ends_at_begin : (k : ℕ) (a : Bool) (on : Bool) → was_ended on (end_place (pair root_alone k) a) ≡ true
ends_at_begin k true on = ap (λ (p : PairRow). was_ended on (end_place p true)) (pair_at_begin k)
ends_at_begin k false on = ap (λ (p : PairRow). was_ended on (end_place p false)) (pair_at_begin k)

not_here_at_begin : (k : ℕ) (a : Bool) → is_here (end_place (pair root_alone k) a) ≡ false
not_here_at_begin k true = ap (λ (p : PairRow). is_here (end_place p true)) (pair_at_begin k)
not_here_at_begin k false = ap (λ (p : PairRow). is_here (end_place p false)) (pair_at_begin k)

queue_at_begin : (link : Link) → queue root_alone link ≡ []
queue_at_begin (UpLink c) =
    elim (row_at_begin c) [
      | inl e ↦ ap up_marks e
      | inr e ↦ ap up_marks e
    ]
queue_at_begin (DownLink c) =
    elim (row_at_begin c) [
      | inl e ↦ ap (down_marks c) e
      | inr e ↦ ap (down_marks c) e
    ]
queue_at_begin (EndLink k true) = ap (λ (p : PairRow). end_marks p true) (pair_at_begin k)
queue_at_begin (EndLink k false) = ap (λ (p : PairRow). end_marks p false) (pair_at_begin k)

abbrev none_yet : List Mark
none_yet = []

nothing_either : (b : Bool) → none_yet ≡ cond b none_yet none_yet
nothing_either true = refl
nothing_either false = refl

pub begun_kept : (workers : ℕ) → Kept (begun workers)
begun_kept workers = record {
  reached = begins;
  shape = record {
    root = refl;
    owners = λ c w of below. absurd (none_is_some w (sym (owner_at_begin c) ∙ of));
    ends = λ k a. inr (pair_at_begin k);
  };
  prompt = record {
    ends = λ k a h. ends_at_begin k a (reads_on (obj root_alone (end_owner (pair root_alone k) a)));
    children = λ c w below of h noted. absurd (none_is_some w (sym (owner_at_begin c) ∙ of));
    ended = λ i stage b o l. absurd (not_ending i stage);
  };
  delivered = λ m link. nothing_either (slot_of root_alone link == m) ∙ ap (λ (q : List Mark). cond (slot_of root_alone link == m) q []) (sym (queue_at_begin link));
  listed = λ k a h. absurd (clash _ h (not_here_at_begin k a));
  names = record { holders = λ at binding is. absurd (held is); waiters = λ k d within. absurd (below within) };
  pairs = λ i h. absurd (not_accepted i h);
}
  where
    not_ending : (i : ℕ) → (obj root_alone i).stage ≡ Ending → ⊥
    not_ending i e =
        elim (unasked_at_begin i) [
          | inl s ↦ never (ap is_ending (sym s ∙ e))
          | inr s ↦ never (ap is_ending (sym s ∙ e))
        ]

    held : {X : Type 0} {x : X} → None ≡ Some x → ⊥
    held is = Prim.grind arith

    below : {k : ℕ} → k < 0 → ⊥
    below g = omega arith

    not_accepted : (i : ℕ) → (obj root_alone i).accepted ≡ true → ⊥
    not_accepted i h =
        elim (row_at_begin i) [
          | inl e ↦ never (sym (ap (λ (o : Row). o.accepted) e) ∙ h)
          | inr e ↦ never (sym (ap (λ (o : Row). o.accepted) e) ∙ h)
        ]

pub runs_are_kept : (N S : Type 0) → RunsAreKept N S
runs_are_kept N S workers items run = run_kept items (begun workers) (begun_kept workers) run

-- ---- a quiescent one
same_number : (n : ℕ) → (n == n) ≡ true
same_number n = eq-eqb n n refl

none_mapped : {X Y : Type 0} (f : X → Y) (xs : List X) → map f xs ≡ [] → xs ≡ []
none_mapped f [] h = refl
none_mapped f (x ∷ xs) h = absurd (no h)
  where
    no : {Z : Type 0} {z : Z} {zs : List Z} → z ∷ zs ≡ [] → ⊥
    no e = Prim.grind arith

pub queue_is : (c : Control) → Kept c → (link : Link) → on_way link (c.boxes (slot_of c.rows link)) ≡ queue c.rows link
queue_is c kept link = kept.delivered (slot_of c.rows link) link ∙ ap (λ (b : Bool). cond b (queue c.rows link) []) (same_number (slot_of c.rows link))

none_on_way : (c : Control) → Kept c → ((i : ℕ) → c.boxes (obj c.rows i).slot ≡ []) → (link : Link) → queue c.rows link ≡ []
none_on_way c kept empty link = sym (queue_is c kept link) ∙ ap (on_way link) (empty (addressee c.rows link))

coming_off : {X : Type 0} (n u : Bool) (a b : X) (rest : List X) → first_if n a (first_if u b rest) ≡ [] → u ≡ false
coming_off true u a b rest h = absurd (no h)
  where
    no : {Z : Type 0} {z : Z} {zs : List Z} → z ∷ zs ≡ [] → ⊥
    no e = Prim.grind arith
coming_off false true a b rest h = absurd (no h)
  where
    no : {Z : Type 0} {z : Z} {zs : List Z} → z ∷ zs ≡ [] → ⊥
    no e = Prim.grind arith
coming_off false false a b rest h = refl

pub still_where_quiescent : (c : Control) → Kept c → IsQuiescent c → IsStill c.rows c.output_left
still_where_quiescent c kept quiet = record {
  asked = asked_is (is_alive (obj c.rows 0).stage) quiet.asked;
  closed = closed;
  up = up;
  down = λ d. none_mapped _ (down_queue (obj c.rows d)) (none_on_way c kept quiet.empty (DownLink d));
  mail = λ k a. none_mapped _ (end_half (pair c.rows k) a).mail (none_on_way c kept quiet.empty (EndLink k a));
  no_output = λ i e. quiet.no_output i (ap is_ending e);
  no_delimiter = λ k a asked on. quiet.no_delimiter k a asked on;
}
  where
    fits : Inv c.rows
    fits = inv_of (rows_of (kept_but 0 c kept))

    asked_is : (b : Bool) → not b ≡ true → b ≡ false
    asked_is true h = absurd (never h)
    asked_is false h = refl

    up : (d : ℕ) → up_queue (obj c.rows d) ≡ []
    up d = none_mapped _ (up_queue (obj c.rows d)) (none_on_way c kept quiet.empty (UpLink d))

    is_a_socket : (k : ObjKind) → owner_fits k (Some 0) ≡ true → is_socket k ≡ true
    is_a_socket Root h = absurd (never h)
    is_a_socket (IsSocket kind) h = refl
    is_a_socket Listener h = absurd (never h)
    is_a_socket Session h = absurd (never h)

    closed : (d : ℕ) → (obj c.rows d).owner ≡ Some 0 → is_alive (obj c.rows d).stage ≡ false
    closed d of = by (is_alive (obj c.rows d).stage) (is_socket (obj c.rows d).kind) (obj c.rows d).request (is_unused (obj c.rows d).stop) socket (at_socket (obj c.rows d) (fits.fits d)) (quiet.closed d socket) coming
      where
        socket : is_socket (obj c.rows d).kind ≡ true
        socket = is_a_socket (obj c.rows d).kind (ap (owner_fits (obj c.rows d).kind) (sym of) ∙ at_owner (obj c.rows d) (fits.fits d))

        coming : is_coming (obj c.rows d).request ≡ false
        coming = coming_off (not (obj c.rows d).noted) (is_coming (obj c.rows d).request) _ _ _ (up d)

        by : (alive socket : Bool) (r : Use) (stop : Bool) → socket ≡ true → socket_fits socket alive (is_used r) stop ≡ true → is_unused r ≡ false → is_coming r ≡ false → alive ≡ false
        by false s r stop g h u v = refl
        by true true Unused stop g h u v = absurd (never (sym u))
        by true true OnItsWay stop g h u v = absurd (never (sym v))
        by true true Used stop g h u v = absurd (never h)
        by true false r stop g h u v = absurd (never g)

pub quiescent_root_has_ended : (N S : Type 0) → QuiescentRootHasEnded N S
quiescent_root_has_ended N S workers items run quiet =
    let c = after_all items (begun workers) in
    let kept = runs_are_kept N S workers items run in
    root_ended c.rows c.output_left (inv_of (rows_of (kept_but 0 c kept))) kept.shape kept.prompt (still_where_quiescent c kept quiet)

-- ---- who a letter is for
-- the link of a command, and the first of its marks
abbrev link_for : ℕ → Word → Link
link_for to (Own child) = UpLink child.0
link_for to (TermReq child) = UpLink child.0
link_for to (TermAck child) = UpLink child.0
link_for to (Reap socket) = UpLink socket.0
link_for to (Plug end) = DownLink to
link_for to Term = DownLink to
link_for to Stop = DownLink to
link_for to (PipeBind e peer) = EndLink e.pair.0 e.a
link_for to (PipeTerm e) = EndLink e.pair.0 e.a
link_for to (PipeTermAck e) = EndLink e.pair.0 e.a

pub record HasMark (to : ℕ) (word : Word) : Type 0 where
  pub sign : Sign
  pub more : List Mark
  pub is : marks (link_for to word) (record { to = id to; word = word }) ≡ record { to = to; sign = sign } ∷ more

one_mark : (l : Link) (to : ℕ) (sign : Sign) → cond (is_link l l) (record { to = to; sign = sign } ∷ []) none_yet ≡ record { to = to; sign = sign } ∷ []
one_mark l to sign = ap (λ (b : Bool). cond b (record { to = to; sign = sign } ∷ []) none_yet) (link_self l)

has_mark : (to : ℕ) (word : Word) → HasMark to word
has_mark to (Own child) = record { sign = OwnSign; more = []; is = one_mark (UpLink child.0) to OwnSign }
has_mark to (TermReq child) = record { sign = RequestSign; more = []; is = one_mark (UpLink child.0) to RequestSign }
has_mark to (TermAck child) = record { sign = AckSign; more = []; is = one_mark (UpLink child.0) to AckSign }
has_mark to (Reap socket) = record { sign = ReapSign; more = []; is = one_mark (UpLink socket.0) to ReapSign }
has_mark to (Plug None) = record { sign = PlugSign; more = []; is = one_mark (DownLink to) to PlugSign }
has_mark to (Plug (Some e)) = record { sign = PlugSign; more = []; is = ap (λ (q : List Mark). q ++ []) (one_mark (DownLink to) to PlugSign) }
has_mark to Term = record { sign = TermSign; more = []; is = one_mark (DownLink to) to TermSign }
has_mark to Stop = record { sign = StopSign; more = []; is = one_mark (DownLink to) to StopSign }
has_mark to (PipeBind e peer) = record { sign = BindSign; more = []; is = one_mark (EndLink e.pair.0 e.a) to BindSign }
has_mark to (PipeTerm e) = record { sign = PipeTermSign; more = []; is = one_mark (EndLink e.pair.0 e.a) to PipeTermSign }
has_mark to (PipeTermAck e) = record { sign = PipeAckSign; more = []; is = one_mark (EndLink e.pair.0 e.a) to PipeAckSign }

-- the first mark of a link is for its addressee
up_to : (b : Bool) (w : ℕ) (u : Up) → (up_mark b w u).to ≡ w
up_to b w GivesOwn = refl
up_to b w Requests = refl
up_to b w GivesAck = refl

down_to : (w : ℕ) (d : Down) → (down_mark w d).to ≡ w
down_to w GetsPlug = refl
down_to w GetsStop = refl
down_to w GetsTerm = refl

end_to : (w : ℕ) (m : EndWord) → (end_mark w m).to ≡ w
end_to w Binds = refl
end_to w Terms = refl
end_to w Acks = refl

first_to : {X : Type 0} (f : X → Mark) (w : ℕ) → ((x : X) → (f x).to ≡ w) → (xs : List X) (m : Mark) (more : List Mark) → map f xs ≡ m ∷ more → m.to ≡ w
first_to f w all [] m more h = absurd (full m more h)
first_to f w all (x ∷ xs) m more h = ap (λ (y : Mark). y.to) (sym (head_is h)) ∙ all x
  where
    head_is : {y z : Mark} {ys zs : List Mark} → y ∷ ys ≡ z ∷ zs → y ≡ z
    head_is e = Prim.grind arith

for_addressee : (s : Rows) (link : Link) (m : Mark) (more : List Mark) → queue s link ≡ m ∷ more → m.to ≡ addressee s link
for_addressee s (UpLink d) m more h = first_to (up_mark (is_socket (obj s d).kind) (owner_or_root (obj s d).owner)) (owner_or_root (obj s d).owner) (up_to (is_socket (obj s d).kind) (owner_or_root (obj s d).owner)) (up_queue (obj s d)) m more h
for_addressee s (DownLink d) m more h = first_to (down_mark d) d (down_to d) (down_queue (obj s d)) m more h
for_addressee s (EndLink k a) m more h = first_to (end_mark (end_owner (pair s k) a)) (end_owner (pair s k) a) (end_to (end_owner (pair s k) a)) (end_half (pair s k) a).mail m more h

-- nothing goes up from who has no owner
unowned_quiet : (o : Row) → link_fits o ≡ true → o.owner ≡ None → up_queue o ≡ []
unowned_quiet o fits none =
    let known = knows (is_unowned o.owner) _ (ap is_unowned none) (at_root o fits) in
    by _ _ _ o.noted (is_coming o.request) (is_finished o.stage && not (is_unowned o.owner)) (left o.noted _ known) (used_not_coming o.request (right o.plugged _ (right o.noted _ known))) (off (is_finished o.stage) (is_unowned o.owner) (ap is_unowned none))
  where
    knows : (u k : Bool) → u ≡ true → root_fits u k ≡ true → k ≡ true
    knows true k h g = g
    knows false k h g = absurd (never h)

    used_not_coming : (r : Use) → is_used r ≡ true → is_coming r ≡ false
    used_not_coming Unused h = refl
    used_not_coming OnItsWay h = absurd (never h)
    used_not_coming Used h = refl

    off : (f u : Bool) → u ≡ true → (f && not u) ≡ false
    off true true h = refl
    off true false h = absurd (never h)
    off false u h = refl

    by : {X : Type 0} (a b d : X) (n c f : Bool) → n ≡ true → c ≡ false → f ≡ false → first_if (not n) a (first_if c b (first_if f d [])) ≡ []
    by a b d true false false h g e = refl
    by a b d false c f h g e = absurd (never h)
    by a b d true true f h g e = absurd (never (sym g))
    by a b d true false true h g e = absurd (never (sym e))

none_for_ended : (s : Rows) → IsReached s → Inv s → (link : Link) → has_ended (obj s (addressee s link)).stage ≡ true → queue s link ≡ []
none_for_ended s reached fits (UpLink d) ended = by (obj s d).owner refl
  where
    by : (v : Option ℕ) → (obj s d).owner ≡ v → queue s (UpLink d) ≡ []
    by None e = ap (map (up_mark (is_socket (obj s d).kind) (owner_or_root (obj s d).owner))) (unowned_quiet (obj s d) (fits.fits d) e)
    by (Some w) e =
        ap (map (up_mark (is_socket (obj s d).kind) (owner_or_root (obj s d).owner)))
        ((nothing_for_ended s w reached (ap (λ (v : Option ℕ). has_ended (obj s (owner_or_root v)).stage) (sym e) ∙ ended)).children d e)
none_for_ended s reached fits (DownLink d) ended = ap (map (down_mark d)) (nothing_for_ended s d reached ended).own
none_for_ended s reached fits (EndLink k a) ended = ap (map (end_mark (end_owner (pair s k) a))) ((nothing_for_ended s (end_owner (pair s k) a) reached ended).ends k a refl)

-- the oldest letter of a mailbox
pub oldest_lives : (c : Control) → Kept c → (slot to : ℕ) (word : Word) (rest : List Letter) → c.boxes slot ≡ record { to = id to; word = word } ∷ rest → ((obj c.rows to).slot ≡ slot) × (has_ended (obj c.rows to).stage ≡ false)
oldest_lives c kept slot to word rest is =
    let m = has_mark to word in
    let front = shown (slot_of c.rows (link_for to word) == slot) (queue c.rows (link_for to word)) (record { to = to; sign = m.sign }) (m.more ++ on_way (link_for to word) rest)
    (ap (λ (q : List Mark). q ++ on_way (link_for to word) rest) (sym m.is) ∙ ap (on_way (link_for to word)) (sym is) ∙ kept.delivered slot (link_for to word)) in
    let to_is = for_addressee c.rows (link_for to word) (record { to = to; sign = m.sign }) (m.more ++ on_way (link_for to word) rest) front.1 in (
      ap (λ (i : ℕ). (obj c.rows i).slot) to_is ∙ eqb-true (slot_of c.rows (link_for to word)) slot front.0,
      by (has_ended (obj c.rows to).stage) refl (ap (λ (i : ℕ). has_ended (obj c.rows i).stage) (sym to_is)) front.1,
    )
  where
    fits : Inv c.rows
    fits = inv_of (rows_of (kept_but 0 c kept))

    by : {m : Mark} {more : List Mark} (x : Bool) → has_ended (obj c.rows to).stage ≡ x → has_ended (obj c.rows (addressee c.rows (link_for to word))).stage ≡ has_ended (obj c.rows to).stage → queue c.rows (link_for to word) ≡ m ∷ more → has_ended (obj c.rows to).stage ≡ false
    by false e same q = e
    by true e same q = absurd (full _ _ (sym (none_for_ended c.rows kept.reached fits (link_for to word) (same ∙ e)) ∙ q))

pub delivered_to_living : (N S : Type 0) → DeliveredToLiving N S
delivered_to_living N S workers items run slot letter may_deliver =
    let c = after_all items (begun workers) in
    let so = oldest_lives c (runs_are_kept N S workers items run) slot letter.to.0 letter.word may_deliver.behind may_deliver.oldest in
    record { here = so.0; lives = so.1 }
