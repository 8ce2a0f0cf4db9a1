-- What is told of a call of any desk, told of its order.
use Rattle.std.proofs.Common.{◌≡◌, ◌∙◌, ◌++◌, ℕ, Bool, true, List, Option, sym, ap, subst}
use Rattle.zq_base.specs.declared.ids.EndId.{EndId}
use Rattle.spec_control.specs.Control.{Control}
use Rattle.spec_control.specs.Names.{name_of}
use Rattle.spec_control.specs.Moments.{Moment, items_in}
use Rattle.spec_control.specs.OwnAsks.{known_after}
use Rattle.spec_control.specs.declared.request.Req.{Req}
use Rattle.desk.specs.declared.given.Given.{Given}
use Rattle.desk.specs.Coming.{AreDistinct, BindsFit, KeepsNames}
use Rattle.desk.specs.Desk.{HasWhatTheySay, KeepsUp, slot_after}
use Rattle.desk.specs.Making.{IsMadeFor}
use Rattle.ctl_plane.specs.Past.{control_of}
use Rattle.msg_pipe.specs.Known.{Known}
use Rattle.any_sock.specs.declared.any_sock.AnySock.{AnySock}
use Rattle.any_sock.specs.Over.{peer_places}
use Rattle.sock_core.specs.declared.sock.SockCore.{SockCore}
use Rattle.sock_calls.specs.Calls.{owner_of, holding_of, FitsPipes, LeavesOthers, HaveDone}
use Rattle.sock_calls.proofs.CallsLemmas.{done_as}
use Rattle.line_socket.specs.Standing.{kind_told}
use Rattle.plain_desk.specs.Lent.{Lent, GrowsBy, IsOneOrder, coming_to, moments_of}
use Rattle.line_socket.specs.Owned.{IsThereFor}
use Rattle.line_socket.specs.Called.{IsCalled}
use Rattle.line_socket.specs.Tells.{IsTold}
use Rattle.line_socket.proofs.ThereLemmas.{there_alone, there_has, there_open}

pub carry : {A B C : Type 0} (R : A → B → C → Type 0) {a x : A} {b y : B} {c z : C} → a ≡ x → b ≡ y → c ≡ z → R a b c → R x y z
carry R {a} {x} {b} {y} {c} {z} p q r h = subst (λ k. R k y z) p (subst (λ k. R a k z) q (subst (λ k. R a b k) r h))

module _ {N O I S T : Type 0} (K : Known S O I N) {d : Lent (Given N O I) N T} {by : ℕ} {ms : List (Moment N T)} {served : ℕ → ℕ → Bool} {named : EndId → Option N} {coming : ℕ → EndId → Bool} {given : List (Given N O I)} {finds : Control → Type 0}
    (tells : IsTold d by ms served named coming given finds) where
  -- what a lent socket has for a call
  module _ {W : Type 0} (pipes : S) (n : ℕ) (s : Option (SockCore AnySock W N O I)) (is : IsThereFor K pipes d n s) where
    pub tell_open : (known_after (owner_of s) (items_in ms)).open_socket ≡ true
    tell_open = subst (λ x. (known_after (owner_of s) (items_in x)).open_socket ≡ true) (sym tells.moments_are) (there_open K pipes d n s is)

    pub tell_has : HasWhatTheySay by ms (holding_of kind_told s)
    tell_has = subst (λ k. HasWhatTheySay k ms (holding_of kind_told s)) (sym tells.number_is) (subst (λ x. HasWhatTheySay d.caller x (holding_of kind_told s)) (sym tells.moments_are) (there_has K pipes d n s is))

    pub tell_alone : (i : ℕ) → served (slot_after (owner_of s) ms).0 i ≡ true → i ≡ owner_of s
    tell_alone i is_served = there_alone K pipes d n s is i (sym (tells.served_is (slot_after (owner_of s) (moments_of d)).0 i) ∙ subst (λ x. served (slot_after (owner_of s) x).0 i ≡ true) tells.moments_are is_served)

  pub tell_distinct : AreDistinct K.exact (name_of d.items) → AreDistinct K.exact named
  tell_distinct h exact x y n a b = h exact x y n (sym (tells.named_is x) ∙ a) (sym (tells.named_is y) ∙ b)

  pub tell_binds : {fits : _} (o : ℕ) → BindsFit K.out_name K.in_name (name_of d.items) (coming_to d (slot_after o (moments_of d)).0) fits → BindsFit K.out_name K.in_name named (coming (slot_after o ms).0) fits
  tell_binds o h e x comes a b = h e x (sym (tells.coming_is (slot_after o (moments_of d)).0 e) ∙ subst (λ l. coming (slot_after o l).0 e ≡ true) tells.moments_are comes) (sym (tells.named_is e) ∙ a) (sym (tells.named_is _) ∙ b)

  -- what it has behind it
  module _ {e : Lent (Given N O I) N T} {by2 : ℕ} {ms2 : List (Moment N T)} {served2 : ℕ → ℕ → Bool} {named2 : EndId → Option N} {coming2 : ℕ → EndId → Bool} {given2 : List (Given N O I)} {finds2 : Control → Type 0}
      (tells2 : IsTold e by2 ms2 served2 named2 coming2 given2 finds2) where
    pub tell_same : ms2 ≡ ms → moments_of e ≡ moments_of d
    tell_same same = sym tells2.moments_are ∙ same ∙ tells.moments_are

    pub tell_given : given2 ≡ given → e.past.given ≡ d.past.given
    tell_given same = sym tells2.given_is ∙ same ∙ tells.given_is

    pub tell_more : (more : List (Moment N T)) → moments_of e ≡ moments_of d ++ more → ms2 ≡ ms ++ more
    tell_more more is = tells2.moments_are ∙ is ∙ ap (λ l. l ++ more) (sym tells.moments_are)

    pub tell_by : (R : ℕ → List (Moment N T) → List (Moment N T) → Type 0) → R by ms ms2 → R d.caller (moments_of d) (moments_of e)
    tell_by R h = carry R tells.number_is tells.moments_are tells2.moments_are h

    pub tell_called : {W : Type 0} {made : Bool} {may may2 : EndId → ℕ → ℕ → Type 0} {before now : S} {old new : Option (SockCore AnySock W N O I)} → GrowsBy d e → IsOneOrder e → KeepsNames named named2
        → KeepsUp by2 ms ms2 (holding_of kind_told old) (holding_of kind_told new) → owner_of new ≡ owner_of old → FitsPipes K peer_places now new → LeavesOthers K old new before now
        → ((x : EndId) (written read : ℕ) → may x written read → may2 x written read) → HaveDone K made may old new before now → IsCalled K made may2 before d old now e new
    tell_called {W} {made} {may} {may2} {before} {now} {old} {new} grows order names keeps owner fits others makes does = record {
      grows = grows;
      order = order;
      names = λ x n h. sym (tells2.named_is x) ∙ names x n (tells.named_is x ∙ h);
      keeps = carry (λ k a b. KeepsUp k a b (holding_of kind_told old) (holding_of kind_told new)) tells2.number_is tells.moments_are tells2.moments_are keeps;
      owner = owner;
      fits = fits;
      others = others;
      does = done_as K made may may2 makes old new before now does;
    }

  pub tell_found : (req : Req) (x : EndId) (written read : ℕ) → (c : Control) × finds c × IsMadeFor c req x written read → (c : Control) × (c ≡ control_of d.past) × IsMadeFor c req x written read
  tell_found req x written read h = (h.0, tells.found_is h.0 h.1, h.2)
