-- The end of an event: its object has done what it was asked to, and has ended where it could.
use Rattle.std.specs.Prelude.{◌≡◌, ◌≢◌, ◌<◌, ◌==◌, ◌&&◌, ℕ, Bool, true, false, not, List, [], ◌∷◌, ◌++◌, Option, Some, None, length, if◌then◌else◌, refl}
use Rattle.std.proofs.Common.{sym, ap, ◌∙◌, subst}
use Rattle.std.proofs.lemmas.List.{get_or-set_same}
use Rattle.std.proofs.lemmas.Bool.{eqb-true}
use Rattle.spec_control.specs.declared.letter.Word.TheVariants.{TermAck}
use Rattle.spec_control.specs.declared.stage.Stage.{Stage}
use Rattle.spec_control.specs.declared.stage.Stage.TheVariants.{Alive, Told, Ending, Finished, Cleared}
use Rattle.spec_control.specs.Stage.{is_alive, is_told, is_ending, is_finished, has_ended, was_asked, is_coming}
use Rattle.spec_control.specs.Place.{was_ended}
use Rattle.spec_control.specs.Row.{Row, nobody, is_socket, is_unowned, reads_on, is_over}
use Rattle.spec_control.specs.Rows.{Rows, obj, pair, with_object, end_place, end_owner, end_half, behind, owed, living, may_end, MayEnd}
use Rattle.spec_control.specs.Control.{Control, with_value, id, put, tell_owner, finish, try_end}
use Rattle.spec_control.specs.After.{owner_or_root}
use Rattle.control_laws.specs.Reached.{is_past}
use Rattle.control_laws.specs.Prompt.{IsPromptBut, IsPrompt}
use Rattle.control_laws.specs.Mail.{Mark, AckSign, down_marks}
use Rattle.control_laws.specs.Kept.{IsUnasked, NamesAreOpen, KeptBut, Kept}
use Rattle.control_laws.proofs.ListLemmas.{never, clash, left, right, is_here as here_is, is_elsewhere, written, placed}
use Rattle.control_laws.proofs.ClosedLemmas.{may_end_closed}
use Rattle.control_laws.proofs.PromptLemmas.{but, and_at}
use Rattle.control_laws.proofs.MailLemmas.{value_here, value_else}
use Rattle.control_laws.proofs.FrontLemmas.{up_list, down_list}
use Rattle.control_laws.proofs.StepLemmas.{RowsKept, inv_of, rows_end}
use Rattle.control_laws.proofs.PutLemmas.{rows_queues, StaysThere, object_now, object_put_up}
use Rattle.control_laws.proofs.TellLemmas.{rows_of, kept_of, names_same}

-- object b has asked its ends and told its children
pub record AtOnce (b : ℕ) (s : Rows) : Type 0 where
  pub ends : (k : ℕ) (a : Bool) → end_owner (pair s k) a ≡ b → was_asked (obj s b).stage ≡ true → was_ended (reads_on (obj s b)) (end_place (pair s k) a) ≡ true
  pub children : (c : ℕ) → b ≢ 0 → (obj s c).owner ≡ Some b → was_asked (obj s b).stage ≡ true → (obj s c).noted ≡ true → is_alive (obj s c).stage ≡ false

-- who was not asked owes nothing
pub at_once_unasked : (b : ℕ) (s : Rows) → was_asked (obj s b).stage ≡ false → AtOnce b s
at_once_unasked b s n = record { ends = λ k a of h. absurd (clash _ h n); children = λ c below of h. absurd (clash _ h n) }

pub at_once : (b : ℕ) (s : Rows) (out : ℕ → Bool) → IsPrompt s out → AtOnce b s
at_once b s out p = record {
  ends = λ k a of h.
      ap (λ (i : ℕ). was_ended (reads_on (obj s i)) (end_place (pair s k) a)) (sym of)
      ∙ p.ends k a (subst (λ (i : ℕ). was_asked (obj s i).stage ≡ true) (sym of) h);
  children = λ c below owned h. p.children c b below owned h;
}

pub kept_but : (b : ℕ) (c : Control) → Kept c → KeptBut b c
kept_but b c k = record { reached = k.reached; shape = k.shape; prompt = but b c.rows c.output_left k.prompt; delivered = k.delivered; listed = k.listed; names = k.names; pairs = k.pairs }

-- the event is over, and nobody tried to end
pub kept_at : (b : ℕ) (c : Control) → KeptBut b c → AtOnce b c.rows → ((obj c.rows b).stage ≡ Ending → behind c.rows b ≡ 0 → owed c.rows b ≡ 0 → living c.rows b ≡ 0 → c.output_left b ≡ true) → Kept c
kept_at b c k now ended = record {
  reached = k.reached;
  shape = k.shape;
  delivered = k.delivered;
  listed = k.listed;
  names = k.names;
  pairs = k.pairs;
  prompt = and_at b c.rows c.output_left c.output_left k.prompt (record { ends = now.ends; children = now.children; ended = ended }) (λ i other. refl);
}

pub is_asked : (s : Stage) → s ≡ Ending → was_asked s ≡ false → ⊥
is_asked s e n = never (sym n ∙ ap was_asked e)

pub kept_unasked : (b : ℕ) (c : Control) → KeptBut b c → was_asked (obj c.rows b).stage ≡ false → Kept c
kept_unasked b c k n = kept_at b c k (at_once_unasked b c.rows n) (λ stage. absurd (is_asked _ stage n))

-- an object with a child or an end that is not over cannot end
pub child_keeps : (b : ℕ) (c : Control) (d : ℕ) → KeptBut b c → (obj c.rows d).owner ≡ Some b → is_over (obj c.rows d) ≡ false →
    (obj c.rows b).stage ≡ Ending → behind c.rows b ≡ 0 → owed c.rows b ≡ 0 → living c.rows b ≡ 0 → c.output_left b ≡ true
child_keeps b c d k of busy stage x y z =
    absurd (clash _ ((may_end_closed c.rows b (inv_of (rows_of k)) (record { asked = stage; level = x; nothing_owed = y; no_child = z })).children d of) busy)

pub end_keeps : (b : ℕ) (c : Control) (j : ℕ) (a : Bool) → KeptBut b c → end_owner (pair c.rows j) a ≡ b → is_past (end_half (pair c.rows j) a) ≡ false →
    (obj c.rows b).stage ≡ Ending → behind c.rows b ≡ 0 → owed c.rows b ≡ 0 → living c.rows b ≡ 0 → c.output_left b ≡ true
end_keeps b c j a k of busy stage x y z =
    absurd (clash _ ((may_end_closed c.rows b (inv_of (rows_of k)) (record { asked = stage; level = x; nothing_owed = y; no_child = z })).ends j a of) busy)

-- ---- an object tries to end
ending_is : (s : Stage) → is_ending s ≡ true → s ≡ Ending
ending_is Alive h = absurd (never h)
ending_is Told h = absurd (never h)
ending_is Ending h = refl
ending_is Finished h = absurd (never h)
ending_is Cleared h = absurd (never h)

pub may_end_is : (s : Rows) (i : ℕ) → may_end s i ≡ true → MayEnd s i
may_end_is s i h =
    let rest = right (is_ending (obj s i).stage) _ h in
    let more = right (behind s i == 0) _ rest in
    record {
      asked = ending_is _ (left _ _ h);
      level = eqb-true _ 0 (left (behind s i == 0) _ rest);
      nothing_owed = eqb-true _ 0 (left (owed s i == 0) _ more);
      no_child = eqb-true _ 0 (right (owed s i == 0) _ more);
    }

may_end_so : (s : Rows) (i : ℕ) → (obj s i).stage ≡ Ending → behind s i ≡ 0 → owed s i ≡ 0 → living s i ≡ 0 → may_end s i ≡ true
may_end_so s i a b c d =
    ap (λ (t : Stage). is_ending t && (behind s i == 0 && (owed s i == 0 && living s i == 0))) a
    ∙ ap (λ (n : ℕ). n == 0 && (owed s i == 0 && living s i == 0)) b ∙ ap (λ (n : ℕ). n == 0 && living s i == 0) c ∙ ap (λ (n : ℕ). n == 0) d

acks_more : (k : Bool) (w : ℕ) (n c : Bool) → up_list k w n c false ++ record { to = w; sign = AckSign } ∷ [] ≡ up_list k w n c true
acks_more k w true true = refl
acks_more k w true false = refl
acks_more k w false true = refl
acks_more k w false false = refl

pub finish_kept : (b : ℕ) (c : Control) → KeptBut b c → MayEnd c.rows b → KeptBut b (finish b c)
finish_kept b c kept m = by (obj c.rows b).owner refl
  where
    o : Row
    o = obj c.rows b

    n : Row
    n = record (obj c.rows b) { stage = Finished }

    d : Control
    d = record c { rows = with_object b (record (obj c.rows b) { stage = Finished }) c.rows; ended = c.ended ++ id b ∷ [] }

    there : b < length c.rows.objects
    there = placed (λ (x : Row). has_ended x.stage) c.rows.objects nobody b refl (ap has_ended m.asked)

    stays : StaysThere c.rows b (record (obj c.rows b) { stage = Finished })
    stays = record { there = there; owner = refl; slot = refl }

    rows : RowsKept b (with_object b (record (obj c.rows b) { stage = Finished }) c.rows) c.output_left
    rows = rows_end b c.rows c.output_left (rows_of kept) m

    still_unasked : (i : ℕ) → IsUnasked c.rows i → IsUnasked (with_object b (record (obj c.rows b) { stage = Finished }) c.rows) i
    still_unasked i u =
        elim (written c.rows.objects (record (obj c.rows b) { stage = Finished }) nobody b i there) [
          | here_is here same ↦ absurd (is_asked _ m.asked (subst (λ (j : ℕ). was_asked (obj c.rows j).stage ≡ false) here u.unasked))
          | is_elsewhere same ↦ record { socket = ap (λ (x : Row). is_socket x.kind) same ∙ u.socket; unasked = ap (λ (x : Row). was_asked x.stage) same ∙ u.unasked }
        ]

    names : NamesAreOpen (with_object b (record (obj c.rows b) { stage = Finished }) c.rows) c.names
    names = names_same c.rows _ c.names still_unasked kept.names

    up_ending : (u : Bool) → up_list (is_socket (obj c.rows b).kind) (owner_or_root (obj c.rows b).owner) (obj c.rows b).noted (is_coming (obj c.rows b).request) (is_finished (obj c.rows b).stage && u)
        ≡ up_list (is_socket (obj c.rows b).kind) (owner_or_root (obj c.rows b).owner) (obj c.rows b).noted (is_coming (obj c.rows b).request) false
    up_ending u = ap (λ (t : Stage). up_list (is_socket (obj c.rows b).kind) (owner_or_root (obj c.rows b).owner) (obj c.rows b).noted (is_coming (obj c.rows b).request) (is_finished t && u)) m.asked

    up_finished : (u v : Bool) → u ≡ v → up_list (is_socket (obj c.rows b).kind) (owner_or_root (obj c.rows b).owner) (obj c.rows b).noted (is_coming (obj c.rows b).request) (true && u)
        ≡ up_list (is_socket (obj c.rows b).kind) (owner_or_root (obj c.rows b).owner) (obj c.rows b).noted (is_coming (obj c.rows b).request) v
    up_finished u v e = ap (up_list (is_socket (obj c.rows b).kind) (owner_or_root (obj c.rows b).owner) (obj c.rows b).noted (is_coming (obj c.rows b).request)) e

    down : down_marks b (obj c.rows b) ≡ down_marks b (record (obj c.rows b) { stage = Finished })
    down = ap (λ (t : Stage). down_list b (obj c.rows b).plugged (is_coming (obj c.rows b).stop) (is_told t)) m.asked

    by : (w : Option ℕ) → (obj c.rows b).owner ≡ w → KeptBut b (tell_owner w b (record c { rows = with_object b (record (obj c.rows b) { stage = Finished }) c.rows; ended = c.ended ++ id b ∷ [] }))
    by None e =
        kept_of b (record c { rows = with_object b (record (obj c.rows b) { stage = Finished }) c.rows; ended = c.ended ++ id b ∷ [] }) rows
        (object_now c.rows b (record (obj c.rows b) { stage = Finished }) _ _ _ c.boxes stays (rows_queues c.rows b) kept.delivered
        (up_ending (not (is_unowned (obj c.rows b).owner)) ∙ sym (up_finished (not (is_unowned (obj c.rows b).owner)) false (ap (λ (v : Option ℕ). not (is_unowned v)) e))) down)
        kept.listed names
    by (Some w) e =
        kept_of b (put w (TermAck (id b)) (record c { rows = with_object b (record (obj c.rows b) { stage = Finished }) c.rows; ended = c.ended ++ id b ∷ [] })) rows
        (object_put_up c.rows b (record (obj c.rows b) { stage = Finished }) _ _ _ c.boxes (record { to = id w; word = TermAck (id b) }) (record { to = w; sign = AckSign }) w stays (rows_queues c.rows b) kept.delivered
        (λ link. refl)
        (ap (λ (q : List Mark). q ++ record { to = w; sign = AckSign } ∷ []) (up_ending (not (is_unowned (obj c.rows b).owner)))
        ∙ ap (λ (v : ℕ). up_list (is_socket (obj c.rows b).kind) (owner_or_root (obj c.rows b).owner) (obj c.rows b).noted (is_coming (obj c.rows b).request) false ++ record { to = v; sign = AckSign } ∷ []) (sym (ap owner_or_root e))
        ∙ acks_more (is_socket (obj c.rows b).kind) (owner_or_root (obj c.rows b).owner) (obj c.rows b).noted (is_coming (obj c.rows b).request)
        ∙ sym (up_finished (not (is_unowned (obj c.rows b).owner)) true (ap (λ (v : Option ℕ). not (is_unowned v)) e)))
        down (ap owner_or_root e))
        kept.listed names

-- what a further output answer of b changes for others: nothing
but_output : (b : ℕ) (s : Rows) (out : ℕ → Bool) (x : Bool) → IsPromptBut b s out → IsPromptBut b s (with_value b x out)
but_output b s out x p = record { ends = p.ends; children = p.children; ended = λ i other stage y z w. value_else b i x out other ∙ p.ended i other stage y z w }

output_kept : (b : ℕ) (c : Control) (x : Bool) → KeptBut b c → KeptBut b (record c { output_left = with_value b x c.output_left })
output_kept b c x k = record { reached = k.reached; shape = k.shape; prompt = but_output b c.rows c.output_left x k.prompt; delivered = k.delivered; listed = k.listed; names = k.names; pairs = k.pairs }

-- rows that differ in the stage of b alone, which was asked before and is so still
at_once_ended : (b : ℕ) (s : Rows) → b < length s.objects → (obj s b).stage ≡ Ending → AtOnce b s → AtOnce b (with_object b (record (obj s b) { stage = Finished }) s)
at_once_ended b s there stage now = record { ends = ends; children = children }
  where
    t : Rows
    t = with_object b (record (obj s b) { stage = Finished }) s

    asked : was_asked (obj s b).stage ≡ true
    asked = ap was_asked stage

    reads : reads_on (obj (with_object b (record (obj s b) { stage = Finished }) s) b) ≡ reads_on (obj s b)
    reads =
        elim (written s.objects (record (obj s b) { stage = Finished }) nobody b b there) [
          | here_is here same ↦ ap reads_on same
          | is_elsewhere same ↦ ap reads_on same
        ]

    ends : (k : ℕ) (a : Bool) → end_owner (pair s k) a ≡ b → was_asked (obj (with_object b (record (obj s b) { stage = Finished }) s) b).stage ≡ true →
        was_ended (reads_on (obj (with_object b (record (obj s b) { stage = Finished }) s) b)) (end_place (pair s k) a) ≡ true
    ends k a of h = ap (λ (r : Bool). was_ended r (end_place (pair s k) a)) reads ∙ now.ends k a of asked

    children : (c : ℕ) → b ≢ 0 → (obj (with_object b (record (obj s b) { stage = Finished }) s) c).owner ≡ Some b → was_asked (obj (with_object b (record (obj s b) { stage = Finished }) s) b).stage ≡ true →
        (obj (with_object b (record (obj s b) { stage = Finished }) s) c).noted ≡ true → is_alive (obj (with_object b (record (obj s b) { stage = Finished }) s) c).stage ≡ false
    children c below of h noted =
        elim (written s.objects (record (obj s b) { stage = Finished }) nobody b c there) [
          | here_is here same ↦ ap (λ (x : Row). is_alive x.stage) same
          | is_elsewhere same ↦ ap (λ (x : Row). is_alive x.stage) same ∙ now.children c below (sym (ap (λ (x : Row). x.owner) same) ∙ of) asked (sym (ap (λ (x : Row). x.noted) same) ∙ noted)
        ]

finished_rows : (b : ℕ) (c : Control) → (finish b c).rows ≡ with_object b (record (obj c.rows b) { stage = Finished }) c.rows
finished_rows b c = by (obj c.rows b).owner
  where
    by : (w : Option ℕ) → (tell_owner w b (record c { rows = with_object b (record (obj c.rows b) { stage = Finished }) c.rows; ended = c.ended ++ id b ∷ [] })).rows ≡ with_object b (record (obj c.rows b) { stage = Finished }) c.rows
    by None = refl
    by (Some w) = refl

pub try_end_kept : (b : ℕ) (x : Bool) (c : Control) → KeptBut b c → AtOnce b c.rows → Kept (try_end b x c)
try_end_kept b x c kept now = by (may_end c.rows b) refl x refl
  where
    answered : KeptBut b (record c { output_left = with_value b x c.output_left })
    answered = output_kept b c x kept

    ended : (m : MayEnd c.rows b) → Kept (finish b (record c { output_left = with_value b x c.output_left }))
    ended m =
        let d = record c { output_left = with_value b x c.output_left } in
        let rows = finished_rows b d in
        let there = placed (λ (o : Row). has_ended o.stage) c.rows.objects nobody b refl (ap has_ended m.asked) in
        kept_at b (finish b d) (finish_kept b d answered m) (subst (AtOnce b) (sym rows) (at_once_ended b c.rows there m.asked now))
        (λ stage. absurd (not_ending (sym (ap (λ (r : Rows). (obj r b).stage) rows) ∙ stage) there))
      where
        not_ending : (obj (with_object b (record (obj c.rows b) { stage = Finished }) c.rows) b).stage ≡ Ending → b < length c.rows.objects → ⊥
        not_ending h there =
            elim (written c.rows.objects (record (obj c.rows b) { stage = Finished }) nobody b b there) [
              | here_is here same ↦ never (sym (ap has_ended (sym (ap (λ (o : Row). o.stage) same) ∙ h)))
              | is_elsewhere same ↦ never (sym (ap has_ended (sym (ap (λ (o : Row). o.stage) (get_or-set_same c.rows.objects b (record (obj c.rows b) { stage = Finished }) nobody there)) ∙ h)))
            ]

    by : (may : Bool) → may_end c.rows b ≡ may → (y : Bool) → x ≡ y →
        Kept (if may then (if y then record c { output_left = with_value b x c.output_left } else finish b (record c { output_left = with_value b x c.output_left })) else record c { output_left = with_value b x c.output_left })
    by true e true h = kept_at b _ answered now (λ stage y z w. value_here b x c.output_left ∙ h)
    by true e false h = ended (may_end_is c.rows b e)
    by false e y h = kept_at b _ answered now (λ stage y z w. absurd (clash _ (may_end_so c.rows b stage y z w) e))
