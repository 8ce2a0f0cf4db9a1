-- A command that is taken from a socket's mailbox is for the socket; and of its ends behind it, those that were there before are its before.
use Rattle.std.proofs.Common.{◌≡◌, ◌∙◌, ◌==◌, ◌||◌, ℕ, Bool, true, false, List, [], ◌∷◌, filter, refl, sym, ap, subst, true≢false, eq-eqb, if◌then◌else◌}
use Rattle.std.specs.List.{list_any}
use Rattle.std.proofs.lemmas.Bool.{eqb-true}
use Rattle.zq_base.specs.declared.ids.EndId.{EndId}
use Rattle.spec_control.specs.declared.letter.Letter.{Letter}
use Rattle.spec_control.specs.declared.entry.Answered.{Answered}
use Rattle.spec_control.specs.declared.entry.Did.TheVariants.{Delivered}
use Rattle.spec_control.specs.declared.entry.Item.{Item}
use Rattle.spec_control.specs.declared.entry.Item.TheVariants.{Event, Seen}
use Rattle.spec_control.specs.Stage.{has_ended}
use Rattle.spec_control.specs.Place.{is_here}
use Rattle.spec_control.specs.Row.{Row, nobody}
use Rattle.spec_control.specs.Control.{Control, id, is_end, owner_of, place_of, ends_of}
use Rattle.spec_control.specs.After.{after}
use Rattle.spec_control.specs.ControlRun.{FitsItem, after_item}
use Rattle.control_laws.proofs.ListLemmas.{placed}
use Rattle.control_laws.specs.Kept.{Kept}
use Rattle.control_laws.proofs.RootLemmas.{oldest_lives}
use Rattle.control_laws.proofs.LeadLemmas.{old_end}
use Rattle.control_laws.proofs.AttachedOnceLemmas.{IsOld, AreOld, old_run}
use Rattle.spec_control.specs.Moments.{Moment, left_by}
use Rattle.ctl_plane.specs.Past.{control_of}
use Rattle.desk.specs.Desk.{by_caller, slot_after}
use Rattle.sock_core.proofs.FindLemmas.{same_end}
use Rattle.socket_laws.proofs.ReadLemmas.{among_ends}
use Rattle.socket_laws.proofs.ToldLemmas.{pass_among}
use Rattle.plain_desk.specs.Lent.{Lent, moments_of, HasSocket}
use Rattle.plain_desk.proofs.BoxLemmas.{same_box, socket_slot}
use Rattle.socket_laws.specs.Behind.{IsLastItem, IsOneCall}
use Rattle.socket_laws.proofs.LastLemmas.{moments_are_last}
use Rattle.socket_laws.proofs.SendLemmas.{fits_last}
use Rattle.socket_laws.proofs.SocketLemmas.{is_in, kept_now}

-- ---- of lists

-- what is among those that pass a test passes it, and is among all of them
pub passes_among : (f : EndId → Bool) (es : List EndId) (e : EndId) → list_any (is_end e) (filter f es) ≡ true → (f e ≡ true) × (list_any (is_end e) es ≡ true)
passes_among f [] e h = absurd (true≢false (sym h))
passes_among f (x ∷ es) e h = by (λ k. passes_among f es e k) (f x) refl (is_end e x) refl where
  now : Bool → Bool
  now b = list_any (is_end e) (if b then x ∷ filter f es else filter f es)

  later : (b : Bool) → list_any (is_end e) es ≡ true → b || list_any (is_end e) es ≡ true
  later true k = refl
  later false k = k

  by : (list_any (is_end e) (filter f es) ≡ true → (f e ≡ true) × (list_any (is_end e) es ≡ true)) → (b : Bool) → f x ≡ b → (c : Bool) → is_end e x ≡ c → (f e ≡ true) × (is_end e x || list_any (is_end e) es ≡ true)
  by rest true fx true same = (ap f (same_end e x same) ∙ fx, ap (λ (b : Bool). b || list_any (is_end e) es) same)
  by rest true fx false other =
      let r = rest (sym (ap (λ (b : Bool). b || list_any (is_end e) (filter f es)) other) ∙ sym (ap now fx) ∙ h) in
      (r.0, later (is_end e x) r.1)
  by rest false fx c same = let r = rest (sym (ap now fx) ∙ h) in (r.0, later (is_end e x) r.1)

-- ---- the ends of an object

own_before : {N S : Type 0} (c : Control) (item : Item N S) → Kept c → AreOld c → FitsItem c item → (o : ℕ) (x : EndId) → list_any (is_end x) (ends_of o (after_item item c)) ≡ true → is_here (place_of c x) ≡ true
    → list_any (is_end x) (ends_of o c) ≡ true
own_before c (Seen sight) kept old fits o x its here = its
own_before c (Event entry) kept old fits o x its here =
    let b = after entry.did c in
    let listed : list_any (is_end x) c.attached ≡ true = kept.listed x.pair.0 x.a here in
    let was : IsOld c x = among_ends (IsOld c) c.attached old x listed in
    let same = old_end c entry.did kept fits x was.within was.at in
    among_ends (λ y. (owner_of c y == o) ≡ true → list_any (is_end y) (ends_of o c) ≡ true) c.attached (pass_among (λ y. owner_of c y == o) c.attached) x listed
    (eq-eqb (owner_of c x) o (sym same.owner ∙ eqb-true (owner_of b x) o (passes_among (λ y. owner_of b y == o) b.attached x its).0))

module _ {G N S : Type 0} (d e : Lent G N S) (mo : Moment N S) (call : IsOneCall d e mo) where
  last : IsLastItem d e mo
  last = moments_are_last G N S d e mo call

  -- an end that an object has behind the item and that was there before was its before
  pub its_before : (o : ℕ) (x : EndId) → list_any (is_end x) (ends_of o (left_by mo)) ≡ true → is_here (place_of mo.found x) ≡ true → list_any (is_end x) (ends_of o mo.found) ≡ true
  its_before o x its here =
      subst (λ (c : Control). list_any (is_end x) (ends_of o (after_item mo.item c)) ≡ true → is_here (place_of c x) ≡ true → list_any (is_end x) (ends_of o c) ≡ true) (sym last.found)
      (own_before (control_of d.past) mo.item (kept_now d call.before) old (fits_last G N S d e mo call) o x) its here
    where
      old : AreOld (control_of d.past)
      old = subst AreOld (sym call.before.control) (old_run d.past.workers d.items call.before.order.run)

  pub to_it : (o : ℕ) → HasSocket d (id o) → (letter : Letter) (answered : Answered N S) → mo.item ≡ by_caller d.caller (Delivered (slot_after o (moments_of d)) letter answered) → letter.to.0 ≡ o
  to_it o known letter answered is =
      let c = control_of d.past in
      let fits = subst (FitsItem c) is (fits_last G N S d e mo call) in
      let lives = oldest_lives c (kept_now d call.before) (slot_after o (moments_of d)).0 letter.to.0 letter.word fits.may.behind fits.may.oldest in
      let is = is_in d call.before o known in
      let at = (socket_slot d.past.workers c call.before.boxes o is.open_now.socket) ∙ sym is.slot ∙ sym lives.0 in
      sym (same_box d.past.workers c call.before.boxes o letter.to.0 is.open_now.socket (placed (λ (r : Row). has_ended r.stage) c.rows.objects nobody letter.to.0 refl lives.1) at)
