-- Acts behind others lead on (own choice).
use Rattle.std.proofs.Common.{◌≡◌, ◌∙◌, ◌+◌, ◌-◌, ◌≤◌, ◌++◌, ℕ, zero, suc, Bool, true, false, List, [], ◌∷◌, Option, Some, None, All, length, length-append, append-nil, append_assoc, drop, refl, sym, ap, subst, true≢false, arith}
use Rattle.std.specs.Prelude.{is_some}
use Rattle.std.proofs.lemmas.List.Elements.{All-nil, All-append}
use Rattle.spec_control.specs.declared.entry.Item.{Item}
use Rattle.spec_run.specs.Act.{Act, moments_in}
use Rattle.spec_control.specs.Held.{caller_of}
use Rattle.desk.specs.declared.given.Given.{Given}
use Rattle.desk.specs.TakingOver.{AreGivenWith}
use Rattle.msg_pipe.specs.Known.{Known}
use Rattle.any_sock.specs.declared.any_sock.AnySock.{AnySock}
use Rattle.end_table.proofs.OthersLemmas.{places_stay, leaves_pipes, leaves_on}
use Rattle.sock_core.specs.declared.sock.SockCore.{SockCore}
use Rattle.sock_calls.specs.Calls.{LeavesOthers}
use Rattle.line_calls.proofs.StepLemmas.{moments_more}
use Rattle.plain_desk.specs.Lent.{Lent, GrowsBy, moments_of}
use Rattle.line_socket.specs.Owned.{LentParts, newest, moments_since}
use Rattle.line_socket.specs.LeavingOwed.{standing_none, standing_more}
use Rattle.line_socket.specs.Leads.{is_open_in, SendsMore, GivesAtClose, Leads}

-- ---- the moments since

all_less : (k n m : ℕ) → (k + m) - (n + m) ≡ k - n
all_less k n m = omega arith

drop_more : {X : Type 0} (k : ℕ) (xs ys : List X) → drop (length xs - k) (xs ++ ys) ≡ drop (length xs - k) xs ++ ys
drop_more {X = X} k xs ys = by (length xs - k) xs (omega arith) where
  by : (n : ℕ) (zs : List X) → n ≤ length zs → drop n (zs ++ ys) ≡ drop n zs ++ ys
  by zero zs le = refl
  by (suc n) [] le = absurd (omega (arith, le))
  by (suc n) (z ∷ zs) le = by n zs (omega (arith, le))

pub newest_more : {X : Type 0} (n : ℕ) (xs ys : List X) → newest (n + length ys) (xs ++ ys) ≡ newest n xs ++ ys
newest_more n xs ys =
    ap (λ k. drop k (xs ++ ys)) (ap (λ k. k - (n + length ys)) (length-append xs ys) ∙ all_less (length xs) n (length ys)) ∙ drop_more n xs ys

-- ---- the order

pub grows_none : {G N T : Type 0} (d : Lent G N T) → GrowsBy d d
grows_none d = record { caller = refl; workers = refl; more = []; items = sym (append-nil d.items); by = All-nil _ }

grows_more : {G N T : Type 0} (d e f : Lent G N T) → GrowsBy d e → GrowsBy e f → GrowsBy d f
grows_more {N = N} {T = T} d e f a b = record {
  caller = b.caller ∙ a.caller;
  workers = b.workers ∙ a.workers;
  more = a.more ++ b.more;
  items = b.items ∙ ap (λ l. l ++ b.more) a.items ∙ append_assoc d.items a.more b.more;
  by = All-append (λ (x : Item N T). caller_of x ≡ d.caller) a.more b.more a.by (subst (λ (n : ℕ). All (λ (x : Item N T). caller_of x ≡ n) b.more) a.caller b.by);
}

-- ---- the ends of others, and those on their way

open_or_not : (b c : Bool) → (b ≡ true → c ≡ true) → c ≡ false → b ≡ false
open_or_not false c f h = refl
open_or_not true c f h = absurd (true≢false (sym (f refl) ∙ h))

module _ {W N O I S : Type 0} (K : Known S O I N) where
  pub leaves_same : (s : Option (SockCore AnySock W N O I)) (pipes : S) → is_some s ≡ true → LeavesOthers K s s pipes pipes
  leaves_same None pipes is = absurd (true≢false (sym is))
  leaves_same (Some s) pipes is = leaves_pipes K pipes s.ends s.ends (places_stay s.ends.places.items s.ends.places.items refl) refl

  leaves_more : (s t u : Option (SockCore AnySock W N O I)) (a b c : S) → LeavesOthers K s t a b → LeavesOthers K t u b c → LeavesOthers K s u a c
  leaves_more None t u a b c x y = absurd x
  leaves_more (Some s) None u a b c x y = absurd x
  leaves_more (Some s) (Some t) None a b c x y = absurd y
  leaves_more (Some s) (Some t) (Some u) a b c x y = leaves_on K a b c s.ends t.ends u.ends x y

  left_there : (s t : Option (SockCore AnySock W N O I)) (a b : S) → LeavesOthers K s t a b → is_some t ≡ true
  left_there None t a b x = absurd x
  left_there (Some s) None a b x = absurd x
  left_there (Some s) (Some t) a b x = refl

module _ {N O I S : Type 0} (K : Known S O I N) where
  pub none_sent : (pipes : S) (gs : List (Given N O I)) → SendsMore K pipes gs gs
  none_sent pipes gs = record { ends = []; behind = sym (append-nil gs); given = All-nil _ }

module _ {W N O I S T : Type 0} (K : Known S O I N) where
  gives_none : (l : LentParts W N O I S T) → GivesAtClose K l l
  gives_none l = record { was_open = λ h. h; kept = λ h. refl; sent = none_sent K l.pipes l.desk.past.given; over = λ h. (refl, refl) }

  gives_more : (s t u : LentParts W N O I S T) → GivesAtClose K s t → GivesAtClose K t u → GivesAtClose K s u
  gives_more s t u a b = record {
    was_open = λ h. a.was_open (b.was_open h);
    kept = λ h. b.kept h ∙ a.kept (b.was_open h);
    sent = by (is_open_in t.socket) refl;
    over = λ h. let x = a.over h in let y = b.over (open_or_not (is_open_in t.socket) (is_open_in s.socket) a.was_open h) in (y.0 ∙ x.0, y.1 ∙ x.1);
  }
    where
      by : (o : Bool) → is_open_in t.socket ≡ o → SendsMore K u.pipes s.desk.past.given u.desk.past.given
      by true is = record { ends = b.sent.ends; behind = b.sent.behind ∙ ap (λ l. l ++ b.sent.ends) (a.kept is); given = b.sent.given }
      by false is = let o = b.over is in record { ends = a.sent.ends; behind = o.1 ∙ a.sent.behind; given = subst (λ (p : S). AreGivenWith K p a.sent.ends) (sym o.0) a.sent.given }

  -- ---- all of it

  pub led_none : (s : LentParts W N O I S T) → Leads K s [] s
  led_none s = record {
    moments = sym (append-nil (moments_of s.desk));
    since = omega arith;
    grows = grows_none s.desk;
    others = leaves_same K s.socket s.pipes;
    given = gives_none s;
    standing = standing_none K s;
  }

  pub led_more : (s t u : LentParts W N O I S T) (before after : List (Act N T)) → Leads K s before t → Leads K t after u → Leads K s (before ++ after) u
  led_more s t u before after a b = record {
    moments = b.moments ∙ ap (λ l. l ++ moments_in after) a.moments ∙ append_assoc (moments_of s.desk) (moments_in before) (moments_in after) ∙ ap (λ l. moments_of s.desk ++ l) (sym (moments_more before after));
    since = let x = a.since in let y = b.since in let n = ap length (moments_more before after) in let m = length-append (moments_in before) (moments_in after) in omega (arith, x, y, n, m);
    grows = grows_more s.desk t.desk u.desk a.grows b.grows;
    others = λ is. let x = a.others is in leaves_more K s.socket t.socket u.socket s.pipes t.pipes u.pipes x (b.others (left_there K s.socket t.socket s.pipes t.pipes x));
    given = gives_more s t u a.given b.given;
    standing = standing_more K s t u before after b.grows a.standing b.standing;
  }

  pub led_moments : (s t : LentParts W N O I S T) (acts : List (Act N T)) → Leads K s acts t → moments_since t ≡ moments_since s ++ moments_in acts
  led_moments s t acts a =
      ap (λ n. newest n (moments_of t.desk)) a.since ∙ ap (λ l. newest (s.since + length (moments_in acts)) l) a.moments
      ∙ newest_more s.since (moments_of s.desk) (moments_in acts)
