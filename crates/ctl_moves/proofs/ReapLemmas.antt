-- What the reaper has once it has taken the ends of a closed socket.
use Rattle.std.specs.Prelude.{◌≡◌, ◌≢◌, ◌<◌, ◌==◌, ◌&&◌, ◌||◌, ◌⊎◌, ◌∷◌, [], ℕ, Bool, true, false, List, Some, None, All, filter, is_some, map, unwrap_or, if◌then◌else◌, length, not, refl}
use Rattle.std.specs.List.{list_any}
use Rattle.std.proofs.Common.{sym, ap, ◌∙◌, subst, inl, inr}
use Rattle.std.proofs.lemmas.Bool.{cases_eq, eqb-true}
use Rattle.std.proofs.lemmas.List.{append-nil, get_or-set_same, get_or-set_other}
use Rattle.std.proofs.lemmas.List.Elements.{All-nil, All-cons, All-head, All-tail, All-weaker, All-map, All-filter, filter_passes}
use Rattle.zq_base.specs.declared.ids.EndId.{EndId}
use Rattle.zq_base.specs.declared.ids.ObjId.{ObjId}
use Rattle.spec_control.specs.declared.entry.Joining.{Joining}
use Rattle.spec_control.specs.declared.letter.Word.TheVariants.{Term}
use Rattle.spec_control.specs.declared.stage.Stage.{Stage}
use Rattle.spec_control.specs.declared.stage.Stage.TheVariants.{Alive, Told, Ending, Finished, Cleared}
use Rattle.spec_control.specs.declared.stage.Use.{Use}
use Rattle.spec_control.specs.declared.stage.Use.TheVariants.{Unused, OnItsWay, Used}
use Rattle.spec_control.specs.Stage.{is_alive, is_coming}
use Rattle.spec_control.specs.declared.end.EndState.{EndState}
use Rattle.spec_control.specs.Place.{At, is_here}
use Rattle.spec_control.specs.Row.{Row, is_socket, link_after, nobody, ReapComes}
use Rattle.spec_control.specs.Rows.{obj}
use Rattle.spec_control.specs.Control.{Control, ends_of, is_end, link, met_in, owner_of, place_of, put}
use Rattle.spec_control.specs.ControlRun.{Joins, is_between, reap_joins, taken_over}
use Rattle.spec_control.specs.Held.{Held}
use Rattle.control_laws.proofs.ListLemmas.{clash, never, left, placed, right}
use Rattle.ctl_moves.proofs.BetweenLemmas.{is_out, none_plugged, written_stay}
use Rattle.control_laws.proofs.AskLemmas.{same_end}
use Rattle.desk.specs.declared.given.Given.{Given}
use Rattle.desk.specs.declared.given.Parting.{Parting}
use Rattle.desk.specs.declared.load.Load.{Load}
use Rattle.desk.specs.Holding.{Holding, IsPlugged, Begins, AreAtDelimiter, given_as, held_given, has_end, states_given, writes_in}
use Rattle.desk.specs.Joins.{IsReaped, IsTakenIn, KeepsObjects, is_plugged_between}
use Rattle.desk.specs.Turns.{TurnsBy, HasTurned}
use Rattle.desk.specs.Lent.{HasBothNames, HasEnds, HasAll, has_writer}
use Rattle.desk.specs.Load.{IsNamed}
use Rattle.ctl_state.specs.declared.state.State.{State}
use Rattle.ctl_state.specs.Boxes.{mail_at}
use Rattle.ctl_state.specs.Needs.{AreMet}
use Rattle.ctl_state.specs.Objects.{tree_row, IsLivingChild}
use Rattle.ctl_state.specs.Stands.{letter_for, slot_of}
use Rattle.mailbox.specs.Mail.{Mail}
use Rattle.own_tree.specs.declared.row.Row.{Row as TreeRow}
use Rattle.ctl_state.specs.declared.command.Command.{Command}
use Rattle.ctl_state.specs.Parts.{on_tree, sent_to}
use Rattle.ctl_moves.specs.Turning.{PutsLoaded}
use Rattle.ctl_moves.proofs.HeldLemmas.{has_listed}
use Rattle.ctl_moves.proofs.MailLemmas.{puts_sent}
use Rattle.ctl_moves.proofs.TurnedLemmas.{in_none}
use Rattle.ctl_moves.proofs.HolderLemmas.{has_same}
use Rattle.ctl_moves.specs.Reaping.{MayReap}

pub all_of_map : {X Y : Type 0} (P : Y → Type 0) (f : X → Y) (xs : List X) → All P (map f xs) → All (λ x. P (f x)) xs
all_of_map P f [] all = All-nil (λ x. P (f x))
all_of_map P f (x ∷ xs) all = All-cons (λ y. P (f y)) x xs (All-head P (f x) (map f xs) all) (all_of_map P f xs (All-tail P (f x) (map f xs) all))

pub map_of_map : {X Y Z : Type 0} (f : Y → Z) (g : X → Y) (xs : List X) → map f (map g xs) ≡ map (λ x. f (g x)) xs
map_of_map f g [] = refl
map_of_map f g (x ∷ xs) = ap (λ ys. f (g x) ∷ ys) (map_of_map f g xs)

map_same : {X : Type 0} (xs : List X) → map (λ x. x) xs ≡ xs
map_same [] = refl
map_same (x ∷ xs) = ap (λ ys. x ∷ ys) (map_same xs)

-- an end of a list is of whom all are
one_of : (c : Control) (i : ℕ) (e : EndId) (es : List EndId) → All (λ d. owner_of c d ≡ i) es → list_any (is_end e) es ≡ true → owner_of c e ≡ i
one_of c i e [] all has = absurd (never has)
one_of c i e (d ∷ es) all has = by (one_of c i e es (All-tail (λ x. owner_of c x ≡ i) d es all)) (is_end e d) refl has
  where
    by : (list_any (is_end e) es ≡ true → owner_of c e ≡ i) → (b : Bool) → is_end e d ≡ b → (b || list_any (is_end e) es) ≡ true → owner_of c e ≡ i
    by later true same h = ap (owner_of c) (same_end e d same) ∙ All-head (λ x. owner_of c x ≡ i) d es all
    by later false other h = later h

module _ {N O I : Type 0} where
  -- what came with the ends is said of each
  writes_here : (c : Control) (e : EndId) (was : Bool) (gs : List (Given N O I)) → All (λ g. is_some g.out ≡ has_writer (place_of c g.end)) gs → list_any (is_end e) (map (λ g. g.end) gs) ≡ true → writes_in gs e was ≡ has_writer (place_of c e)
  writes_here c e was [] all has = absurd (never has)
  writes_here c e was (g ∷ gs) all has = by (writes_here c e was gs (All-tail (λ x. is_some x.out ≡ has_writer (place_of c x.end)) g gs all)) (is_end e g.end) refl has
    where
      by : (list_any (is_end e) (map (λ x. x.end) gs) ≡ true → writes_in gs e was ≡ has_writer (place_of c e)) → (b : Bool) → is_end e g.end ≡ b → (b || list_any (is_end e) (map (λ x. x.end) gs)) ≡ true → (if b then is_some g.out else writes_in gs e was) ≡ has_writer (place_of c e)
      by later true same h = All-head (λ x. is_some x.out ≡ has_writer (place_of c x.end)) g gs all ∙ sym (ap (λ (d : EndId). has_writer (place_of c d)) (same_end e g.end same))
      by later false other h = later h

  writes_else : (e : EndId) (was : Bool) (gs : List (Given N O I)) → list_any (is_end e) (map (λ g. g.end) gs) ≡ false → writes_in gs e was ≡ was
  writes_else e was [] none = refl
  writes_else e was (g ∷ gs) none = by (writes_else e was gs) (is_end e g.end) none
    where
      by : (list_any (is_end e) (map (λ x. x.end) gs) ≡ false → writes_in gs e was ≡ was) → (b : Bool) → (b || list_any (is_end e) (map (λ x. x.end) gs)) ≡ false → (if b then is_some g.out else writes_in gs e was) ≡ was
      by later true h = absurd (never (sym h))
      by later false h = later h

  at_here : (c : Control) (at : EndId → Bool) (e : EndId) (gs : List (Given N O I)) → All (λ g. g.met ≡ met_in (place_of c g.end) (c.reasons g.end)) gs → AreAtDelimiter at gs → list_any (is_end e) (map (λ g. g.end) gs) ≡ true →
      met_in (place_of c e) (c.reasons e) ≡ true → at e ≡ true
  at_here c at e [] all met has h = absurd (never has)
  at_here c at e (g ∷ gs) all met has h =
      by (λ k. at_here c at e gs (All-tail (λ x. x.met ≡ met_in (place_of c x.end) (c.reasons x.end)) g gs all) (All-tail (λ x. x.met ≡ true → at x.end ≡ true) g gs met) k h) (is_end e g.end) refl has
    where
      by : (list_any (is_end e) (map (λ x. x.end) gs) ≡ true → at e ≡ true) → (b : Bool) → is_end e g.end ≡ b → (b || list_any (is_end e) (map (λ x. x.end) gs)) ≡ true → at e ≡ true
      by later true same k =
          ap at (same_end e g.end same)
          ∙ All-head (λ x. x.met ≡ true → at x.end ≡ true) g gs met
          (All-head (λ x. x.met ≡ met_in (place_of c x.end) (c.reasons x.end)) g gs all ∙ sym (ap (λ (d : EndId). met_in (place_of c d) (c.reasons d)) (same_end e g.end same)) ∙ h)
      by later false other k = later k

module _ {N O I : Type 0} where
  -- and how far each is
  state_here : (c : Control) (e : EndId) (was : EndState) (gs : List (Given N O I)) → All (λ g. place_of c g.end ≡ At g.state) gs → list_any (is_end e) (map (λ g. g.end) gs) ≡ true → place_of c e ≡ At (unwrap_or (states_given gs e) was)
  state_here c e was [] all has = absurd (never has)
  state_here c e was (g ∷ gs) all has = by (state_here c e was gs (All-tail (λ x. place_of c x.end ≡ At x.state) g gs all)) (is_end e g.end) refl has
    where
      by : (list_any (is_end e) (map (λ x. x.end) gs) ≡ true → place_of c e ≡ At (unwrap_or (states_given gs e) was)) → (b : Bool) → is_end e g.end ≡ b → (b || list_any (is_end e) (map (λ x. x.end) gs)) ≡ true →
          place_of c e ≡ At (unwrap_or (if b then Some g.state else states_given gs e) was)
      by later true same h = ap (place_of c) (same_end e g.end same) ∙ All-head (λ x. place_of c x.end ≡ At x.state) g gs all
      by later false other h = later h

  state_else : (e : EndId) (was : EndState) (gs : List (Given N O I)) → list_any (is_end e) (map (λ g. g.end) gs) ≡ false → unwrap_or (states_given gs e) was ≡ was
  state_else e was [] none = refl
  state_else e was (g ∷ gs) none = by (state_else e was gs) (is_end e g.end) none
    where
      by : (list_any (is_end e) (map (λ x. x.end) gs) ≡ false → unwrap_or (states_given gs e) was ≡ was) → (b : Bool) → (b || list_any (is_end e) (map (λ x. x.end) gs)) ≡ false → unwrap_or (if b then Some g.state else states_given gs e) was ≡ was
      by later true h = absurd (never (sym h))
      by later false h = later h

module _ {N O I : Type 0} (out_name : O → N) (in_name : I → N) (s : State (Load N O I)) (h : Holding N) (socket : ObjId) (parting : Parting N O I) (w : MayReap out_name in_name s h socket.0 parting) where
  abbrev gs : List (Given N O I)
  gs = parting.ends.items

  abbrev here : List EndId
  here = filter (λ e. is_here (place_of w.control e)) (ends_of socket.0 w.control)

  -- the joins that the ends make
  as_joins : map (λ (g : Given N O I). let x : Joins = record { end = g.end; peer = []; met = g.met } in x) parting.ends.items ≡ reap_joins w.control socket.0
  as_joins =
      sym (map_of_map (λ (j : Joining N). let x : Joins = record { end = j.end; peer = j.peer; met = j.met } in x) (given_as out_name in_name) parting.ends.items)
      ∙ ap (λ (js : List (Joining N)). map (λ (j : Joining N). let x : Joins = record { end = j.end; peer = j.peer; met = j.met } in x) js) (sym w.reaps.ends.listed)
      ∙ w.reaps.all.joined

  pub ends_are : map (λ (g : Given N O I). g.end) parting.ends.items ≡ here
  ends_are =
      sym (map_of_map (λ (x : Joins). x.end) (λ (g : Given N O I). let x : Joins = record { end = g.end; peer = []; met = g.met } in x) parting.ends.items)
      ∙ ap (λ (xs : List Joins). map (λ (x : Joins). x.end) xs) as_joins
      ∙ map_of_map (λ (x : Joins). x.end) (λ (e : EndId). taken_over w.control e) here ∙ map_same here

  met_are : All (λ (g : Given N O I). g.met ≡ met_in (place_of w.control g.end) (w.control.reasons g.end)) parting.ends.items
  met_are =
      all_of_map (λ (x : Joins). x.met ≡ met_in (place_of w.control x.end) (w.control.reasons x.end)) (λ (g : Given N O I). let x : Joins = record { end = g.end; peer = []; met = g.met } in x) parting.ends.items
      (subst (λ (xs : List Joins). All (λ (x : Joins). x.met ≡ met_in (place_of w.control x.end) (w.control.reasons x.end)) xs) (sym as_joins) (of here))
    where
      of : (es : List EndId) → All (λ (x : Joins). x.met ≡ met_in (place_of w.control x.end) (w.control.reasons x.end)) (map (λ e. taken_over w.control e) es)
      of [] = All-nil (λ (x : Joins). x.met ≡ met_in (place_of w.control x.end) (w.control.reasons x.end))
      of (e ∷ es) = All-cons (λ (x : Joins). x.met ≡ met_in (place_of w.control x.end) (w.control.reasons x.end)) (taken_over w.control e) (map (λ d. taken_over w.control d) es) refl (of es)

  pub own_ends : (i : ℕ) → All (λ e. owner_of w.control e ≡ i) (filter (λ e. is_here (place_of w.control e)) (ends_of i w.control))
  own_ends i =
      All-filter (λ e. is_here (place_of w.control e)) (λ e. owner_of w.control e ≡ i) (ends_of i w.control)
      (All-weaker (λ e. (owner_of w.control e == i) ≡ true) (λ e. owner_of w.control e ≡ i) (λ e is. eqb-true (owner_of w.control e) i is) (ends_of i w.control) (filter_passes (λ e. owner_of w.control e == i) w.control.attached))

  module _ (k : Holding N) (plugged : IsPlugged socket.0 (map (held_given out_name in_name) parting.ends.items) h k) (writing : (e : EndId) → k.writes e ≡ writes_in parting.ends.items e (h.writes e)) (at : AreAtDelimiter k.at_delimiter parting.ends.items)
      (begins : Begins (states_given parting.ends.items) h k) where
    held_ends : map (λ (x : Held N). x.end) (k.ends socket.0) ≡ map (λ (g : Given N O I). g.end) parting.ends.items
    held_ends = ap (λ (hs : List (Held N)). map (λ (x : Held N). x.end) hs) plugged.ends ∙ map_of_map (λ (x : Held N). x.end) (held_given out_name in_name) parting.ends.items

    is_given : (e : EndId) → has_end e (k.ends socket.0) ≡ true → list_any (is_end e) (map (λ (g : Given N O I). g.end) parting.ends.items) ≡ true
    is_given e has = sym (has_listed e (k.ends socket.0) ∙ ap (list_any (is_end e)) held_ends) ∙ has

    mine : HasEnds w.names w.control.rows.pairs w.control.attached w.control.reasons k socket.0
    mine = record {
      ends = held_ends ∙ ends_are;
      named = subst (λ (hs : List (Held N)). All (HasBothNames w.names) hs) (sym plugged.ends)
          (All-map (HasBothNames w.names) (held_given out_name in_name) parting.ends.items
          (All-weaker (λ (g : Given N O I). IsNamed out_name in_name w.names (given_as out_name in_name g)) (λ (g : Given N O I). HasBothNames w.names (held_given out_name in_name g)) (λ g is. record { written = is.written; read = is.read }) parting.ends.items
          (all_of_map (IsNamed out_name in_name w.names) (given_as out_name in_name) parting.ends.items (subst (λ (js : List (Joining N)). All (IsNamed out_name in_name w.names) js) w.reaps.ends.listed w.reaps.ends.named))));
      writes = λ e has. writing e ∙ writes_here w.control e (h.writes e) parting.ends.items w.reaps.all.writers (is_given e has);
      delimiters = λ e has met. at_here w.control k.at_delimiter e parting.ends.items met_are at (is_given e has) met;
      states = λ e has. state_here w.control e (h.state e) parting.ends.items w.reaps.all.states (is_given e has) ∙ ap At (sym (begins.states socket.0 e has));
    }

    theirs : (i : ℕ) → i ≢ socket.0 → k.holds i ≡ true → HasEnds w.names w.control.rows.pairs w.control.attached w.control.reasons k i
    theirs i other holds = record {
      ends = ap (λ (hs : List (Held N)). map (λ (x : Held N). x.end) hs) same ∙ was.ends;
      named = subst (λ (hs : List (Held N)). All (HasBothNames w.names) hs) (sym same) was.named;
      writes = λ e has. writing e ∙ writes_else e (h.writes e) parting.ends.items (not_given e (held e has)) ∙ was.writes e (held e has);
      delimiters = λ e has met. plugged.delimiters i e (held e has) (was.delimiters e (held e has) met);
      states = λ e has. was.states e (held e has) ∙ ap At (sym (begins.states i e has ∙ state_else e (h.state e) parting.ends.items (not_given e (held e has))));
    }
      where
        same : k.ends i ≡ h.ends i
        same = (plugged.others i other).1.0

        was : HasEnds w.names w.control.rows.pairs w.control.attached w.control.reasons h i
        was = w.has i (sym (plugged.others i other).0 ∙ holds)

        held : (e : EndId) → has_end e (k.ends i) ≡ true → has_end e (h.ends i) ≡ true
        held e has = subst (λ (hs : List (Held N)). has_end e hs ≡ true) same has

        not_given : (e : EndId) → has_end e (h.ends i) ≡ true → list_any (is_end e) (map (λ (g : Given N O I). g.end) parting.ends.items) ≡ false
        not_given e has = by (list_any (is_end e) (map (λ (g : Given N O I). g.end) parting.ends.items)) refl
          where
            by : (b : Bool) → list_any (is_end e) (map (λ (g : Given N O I). g.end) parting.ends.items) ≡ b → b ≡ false
            by true given =
                absurd (other (sym (one_of w.control i e (filter (λ d. is_here (place_of w.control d)) (ends_of i w.control)) (own_ends i) (sym (has_listed e (h.ends i) ∙ ap (list_any (is_end e)) was.ends) ∙ has))
                ∙ one_of w.control socket.0 e here (own_ends socket.0) (sym (ap (list_any (is_end e)) ends_are) ∙ given)))
            by false given = refl

    -- nothing more is told of the ends
    pub reaper_turned : HasTurned w.control (put socket.0 Term (link ReapComes socket.0 w.control)) h k
    reaper_turned =
        subst (λ (ts : List (EndId × EndState)). TurnsBy ts h k) (sym (in_none w.control (put socket.0 Term (link ReapComes socket.0 w.control)) (λ e. refl)))
        (record { turns = begins.turns ∙ sym (append-nil h.turns); sealed = begins.sealed ∙ sym (append-nil h.sealed) })

    -- the objects that it had are there
    pub reaper_objects : KeepsObjects w.control (put socket.0 Term (link ReapComes socket.0 w.control)) h k
    reaper_objects = record {
      holds = λ i stays. other i stays.way {Q = λ n. k.holds n ≡ h.holds n} (λ n ne. (plugged.others n ne).0);
      kinds = λ i stays. other i stays.way {Q = λ n. k.kind n ≡ h.kind n} (λ n ne. (plugged.others n ne).1.1);
      had = λ i has. before i has;
      reaped = λ i between taken lives. here i between taken (cases_eq i socket.0);
      taken_in = λ i came. absurd (none_came i came);
    }
      where
        was : Row
        was = obj w.control.rows socket.0

        came : is_between was ≡ true
        came = ap (λ (b : Bool). is_socket was.kind && b) (left (is_coming was.request) (is_alive was.stage && is_socket was.kind) w.reaps.comes) ∙ ap (λ (b : Bool). b && true) (right (is_alive was.stage) (is_socket was.kind) (right (is_coming was.request) (is_alive was.stage && is_socket was.kind) w.reaps.comes))

        there : socket.0 < length w.control.rows.objects
        there = placed (λ (o : Row). not (is_coming o.request)) w.control.rows.objects nobody socket.0 refl (ap not (left (is_coming was.request) (is_alive was.stage && is_socket was.kind) w.reaps.comes))

        gone : is_between (obj (put socket.0 Term (link ReapComes socket.0 w.control)).rows socket.0) ≡ false
        gone = ap is_between (get_or-set_same w.control.rows.objects socket.0 (link_after ReapComes was) nobody there) ∙ none (is_socket was.kind)
          where
            none : (b : Bool) → (b && false) ≡ false
            none true = refl
            none false = refl

        none_came : (i : ℕ) → is_plugged_between (obj w.control.rows i) (obj (put socket.0 Term (link ReapComes socket.0 w.control)).rows i) ≡ true → ⊥
        none_came i plug = clash _ plug (none_plugged w.control.rows (put socket.0 Term (link ReapComes socket.0 w.control)).rows (written_stay is_out refl w.control.rows socket.0 (link_after ReapComes was) (λ out. out)) i)

        before : (i : ℕ) → k.holds i ≡ true → ((h.holds i ≡ true) × (k.kind i ≡ h.kind i)) ⊎ (IsReaped (obj w.control.rows i) (obj (put socket.0 Term (link ReapComes socket.0 w.control)).rows i) (k.kind i) ⊎ IsTakenIn (obj w.control.rows i) (obj (put socket.0 Term (link ReapComes socket.0 w.control)).rows i) (k.kind i))
        before i has =
            elim (cases_eq i socket.0) [
              | inl same ↦ inr (inl (record {
                between = ap (λ (n : ℕ). is_between (obj w.control.rows n)) same ∙ came;
                taken = ap (λ (n : ℕ). is_between (obj (put socket.0 Term (link ReapComes socket.0 w.control)).rows n)) same ∙ gone;
                none = ap k.kind same ∙ plugged.no_kind;
              }))
              | inr ne ↦ inl (sym (plugged.others i ne).0 ∙ has, (plugged.others i ne).1.1)
            ]

        here : (i : ℕ) → is_between (obj w.control.rows i) ≡ true → is_between (obj (put socket.0 Term (link ReapComes socket.0 w.control)).rows i) ≡ false → (i ≡ socket.0) ⊎ (i ≡ socket.0 → ⊥) → k.holds i ≡ true
        here i between taken (inl same) = ap k.holds same ∙ plugged.here
        here i between taken (inr ne) = absurd (never (sym taken ∙ ap is_between (get_or-set_other w.control.rows.objects socket.0 i (link_after ReapComes was) nobody ne) ∙ between))

        other : (i : ℕ) → is_between (obj (put socket.0 Term (link ReapComes socket.0 w.control)).rows i) ≡ is_between (obj w.control.rows i) →
            {Q : ℕ → Type 0} → ((n : ℕ) → n ≢ socket.0 → Q n) → Q i
        other i way rest =
            elim (cases_eq i socket.0) [
              | inl same ↦ absurd (never (sym (sym came ∙ subst (λ (n : ℕ). is_between (obj w.control.rows n) ≡ false) same (sym way ∙ subst (λ (n : ℕ). is_between (obj (put socket.0 Term (link ReapComes socket.0 w.control)).rows n) ≡ false) (sym same) gone))))
              | inr ne ↦ rest i ne
            ]

    pub reaper_has : HasAll w.names (put socket.0 Term (link ReapComes socket.0 w.control)) k
    reaper_has = has_same w.names w.control (put socket.0 Term (link ReapComes socket.0 w.control)) k (record { pairs = refl; attached = refl; reasons = refl }) all
      where
        all : HasAll w.names w.control k
        all i holds = by (cases_eq i socket.0)
          where
            by : (i ≡ socket.0) ⊎ (i ≡ socket.0 → ⊥) → HasEnds w.names w.control.rows.pairs w.control.attached w.control.reasons k i
            by (inl same) = subst (λ (n : ℕ). HasEnds w.names w.control.rows.pairs w.control.attached w.control.reasons k n) (sym same) mine
            by (inr other) = theirs i other holds

  -- ---- what the telling needs
  alive_is : (t : Stage) → is_alive t ≡ true → t ≡ Alive
  alive_is Alive f = refl
  alive_is Told f = absurd (never f)
  alive_is Ending f = absurd (never f)
  alive_is Finished f = absurd (never f)
  alive_is Cleared f = absurd (never f)

  coming_is : (u : Use) → is_coming u ≡ true → u ≡ OnItsWay
  coming_is Unused f = absurd (never f)
  coming_is OnItsWay f = refl
  coming_is Used f = absurd (never f)

  abbrev row : Row
  row = obj w.control.rows socket.0

  pub living_child : AreMet s w.control → IsLivingChild s.objects (record { 0 = 0 }) socket
  living_child met = record {
    unended = met.unended (record { 0 = 0 }) w.reaps.root;
    owned = met.owned socket.0 (record { 0 = 0 }) w.reaps.owner;
    alive = alive_is (tree_row s.objects socket.0).stage
        (sym (ap (λ (o : Row). is_alive o.stage) (w.stands.objects.each socket.0)) ∙ left (is_alive row.stage) (is_socket row.kind) (right (is_coming row.request) (is_alive row.stage && is_socket row.kind) w.reaps.comes));
  }

  pub request_coming : (tree_row s.objects socket.0).request ≡ OnItsWay
  request_coming =
      coming_is (tree_row s.objects socket.0).request
      (sym (ap (λ (o : Row). is_coming o.request) (w.stands.objects.each socket.0)) ∙ left (is_coming row.request) (is_alive row.stage && is_socket row.kind) w.reaps.comes)

  pub term_room : 0 < (mail_at s.boxes (slot_of s socket.0)).spare
  term_room = subst (λ (n : ℕ). 0 < (mail_at s.boxes n).spare) (ap (λ (o : Row). o.slot) (w.stands.objects.each socket.0)) w.reaps.room

  -- the socket's Term is put, with no load
  pub term_put : (t : State (Load N O I)) (f : List TreeRow → List TreeRow) → t ≡ sent_to (slot_of s socket.0) (letter_for socket Term None) (on_tree f s) → PutsLoaded out_name in_name w.names s.boxes t.boxes
  term_put t f is =
      subst (λ (b : List (Mail (Command (Load N O I)))). PutsLoaded out_name in_name w.names s.boxes b) (sym (ap (λ (x : State (Load N O I)). x.boxes) is))
      (puts_sent out_name in_name w.names s.boxes (slot_of s socket.0) (letter_for socket Term None) (record { carries = refl; no_ends = refl }) term_room)
