-- What a holder is told of the ends of an open socket is where they are.
use Rattle.std.specs.Prelude.{◌≡◌, ◌≢◌, ◌==◌, ◌||◌, ℕ, Bool, true, false, cond, List, [], ◌∷◌, if◌then◌else◌, All, map, filter, refl}
use Rattle.std.specs.List.{list_any}
use Rattle.std.proofs.Common.{sym, ap, ◌∙◌}
use Rattle.std.proofs.lemmas.List.Elements.{All-nil, All-cons, All-filter, All-weaker}
use Rattle.zq_base.specs.declared.ids.EndId.{EndId}
use Rattle.spec_control.specs.declared.end.EndState.TheVariants.{Active, DelimiterGot, WaitDelimiter, AckSent, AskedOnce, AskedTwice, Gone}
use Rattle.spec_control.specs.declared.entry.Item.{Item}
use Rattle.spec_control.specs.Place.{Place, Unmade, Away, At, is_here}
use Rattle.spec_control.specs.Rows.{obj}
use Rattle.spec_control.specs.Control.{Control, begun, is_end, owner_of, place_of, ends_of}
use Rattle.spec_control.specs.ControlRun.{after_all}
use Rattle.spec_control.specs.Held.{Held, ends_after}
use Rattle.spec_control.specs.Moments.{left_after}
use Rattle.spec_control.proofs.OwnLemmas.{own_items_are_whole}
use Rattle.control_laws.proofs.ListLemmas.{never}
use Rattle.control_laws.proofs.AskLemmas.{end_self}
use Rattle.control_laws.proofs.MoveLemmas.{is_at}
use Rattle.control_laws.proofs.AttachedOnceLemmas.{IsOld, old_run}
use Rattle.desk.specs.Holding.{Holding, has_end}
use Rattle.desk.specs.Desk.{HasWhatTheySay}
use Rattle.control_laws.proofs.LawLemmas.{open_not}
use Rattle.control_laws.proofs.MomentLemmas.{own_moments}
use Rattle.control_laws.proofs.HeldStepLemmas.{ends_are_here}
use Rattle.spec_run.specs.OpenSocket.{SockEnd}
use Rattle.socket_laws.specs.Open.{ends_at, moments_of, HasOpen}
use Rattle.socket_laws.specs.OpenEnds.{state_held, ToldEndsAreLeft}
use Rattle.socket_laws.proofs.OpenLemmas.{had, above}
use Rattle.socket_laws.proofs.LeftLemmas.{same_told, open_ends_are_left}

-- an end that passes stands among those that do
pub pass_among : (f : EndId → Bool) (es : List EndId) → All (λ e. f e ≡ true → list_any (is_end e) (filter f es) ≡ true) es
pass_among f [] = All-nil (λ e. f e ≡ true → list_any (is_end e) (filter f []) ≡ true)
pass_among f (x ∷ es) =
    All-cons (λ e. f e ≡ true → list_any (is_end e) (filter f (x ∷ es)) ≡ true) x es first
    (All-weaker (λ e. f e ≡ true → list_any (is_end e) (filter f es) ≡ true) (λ e. f e ≡ true → list_any (is_end e) (filter f (x ∷ es)) ≡ true) (λ e is pass. later e (f x) (is pass)) es (pass_among f es))
  where
    first : f x ≡ true → list_any (is_end x) (filter f (x ∷ es)) ≡ true
    first pass =
        ap (λ (b : Bool). list_any (is_end x) (cond b (x ∷ filter f es) (filter f es))) pass
        ∙ ap (λ (b : Bool). b || list_any (is_end x) (filter f es)) (end_self x)

    later : (e : EndId) (b : Bool) → list_any (is_end e) (filter f es) ≡ true → list_any (is_end e) (cond b (x ∷ filter f es) (filter f es)) ≡ true
    later e true is = ap (λ (y : Bool). is_end e x || y) is ∙ either (is_end e x)
      where
        either : (y : Bool) → (y || true) ≡ true
        either true = refl
        either false = refl
    later e false is = is

held_among : {N : Type 0} (e : EndId) (hs : List (Held N)) → has_end e hs ≡ list_any (is_end e) (map (λ x. x.end) hs)
held_among e [] = refl
held_among e (h ∷ hs) = ap (λ (b : Bool). is_end e h.end || b) (held_among e hs)

gone_at : (p : Place) → is_at p ≡ true → is_here p ≡ false → p ≡ At Gone
gone_at Unmade at off = absurd (never at)
gone_at Away at off = absurd (never at)
gone_at (At Active) at off = absurd (never (sym off))
gone_at (At DelimiterGot) at off = absurd (never (sym off))
gone_at (At WaitDelimiter) at off = absurd (never (sym off))
gone_at (At AckSent) at off = absurd (never (sym off))
gone_at (At AskedOnce) at off = absurd (never (sym off))
gone_at (At AskedTwice) at off = absurd (never (sym off))
gone_at (At Gone) at off = refl

module _ {N S : Type 0} (io : ℕ) (items : List (Item N S)) (by o : ℕ) (open_so : HasOpen io items by o) (h : Holding N) (say : HasWhatTheySay by (moments_of io items by) h) (holds : h.holds o ≡ true) where
  abbrev now : Control
  now = after_all items (begun io)

  abbrev was : Control
  was = left_after o (moments_of io items by)

  not_root : o ≢ 0
  not_root = above io items by o open_so

  here : map (λ x. x.end) (h.ends o) ≡ filter (λ e. is_here (place_of now e)) (ends_of o now)
  here =
      ap (λ (hs : List (Held N)). map (λ x. x.end) hs) (say.ends o holds ∙ ap (ends_after o) (own_moments by items (begun io)) ∙ (own_items_are_whole N S (begun io) items open_so.callers o by not_root (had io items by o open_so).has).ends)
      ∙ ends_are_here N S io items open_so.run o (open_not (obj now.rows o) (had io items by o open_so).open_socket)

  -- one end
  record IsOne (e : EndId) : Type 0 where
    old : IsOld now e
    left : place_of was e ≡ place_of now e
    among : is_here (place_of now e) ≡ true → list_any (is_end e) (filter (λ x. is_here (place_of now x)) (ends_of o now)) ≡ true

  ones : All IsOne (ends_of o now)
  ones =
      all (ends_of o now) (All-filter (λ e. owner_of now e == o) (IsOld now) now.attached (old_run io items open_so.run)) (open_ends_are_left N S io items by o open_so).places
      (pass_among (λ e. is_here (place_of now e)) (ends_of o now))
    where
      all : (es : List EndId) → All (IsOld now) es → All (λ e. place_of was e ≡ place_of now e) es →
          All (λ e. is_here (place_of now e) ≡ true → list_any (is_end e) (filter (λ x. is_here (place_of now x)) (ends_of o now)) ≡ true) es → All IsOne es
      all es a b c k d lt = record { old = a k d lt; left = b k d lt; among = c k d lt }

  told_one : (e : EndId) → IsOne e → place_of now e ≡ At (state_held h o e)
  told_one e is = by_held (has_end e (h.ends o)) refl
    where
      missing : has_end e (h.ends o) ≡ false → (b : Bool) → is_here (place_of now e) ≡ b → b ≡ false
      missing none true there = absurd (never (sym none ∙ (held_among e (h.ends o) ∙ ap (list_any (is_end e)) here ∙ is.among there)))
      missing none false there = refl

      by_held : (b : Bool) → has_end e (h.ends o) ≡ b → place_of now e ≡ At (if b then h.state e else Gone)
      by_held true there = sym is.left ∙ say.states o e holds there
      by_held false none = gone_at (place_of now e) is.old.at (let off = missing none (is_here (place_of now e)) refl in off)

  pub told_all : ends_at o now ≡ map (λ e. let x : SockEnd = record { end = e; place = At (state_held h o e) } in x) (ends_of o was)
  told_all =
      same_told (place_of now) (λ e. At (state_held h o e)) (ends_of o now) (All-weaker IsOne (λ e. place_of now e ≡ At (state_held h o e)) told_one (ends_of o now) ones)
      ∙ ap (λ (es : List EndId). map (λ e. let x : SockEnd = record { end = e; place = At (state_held h o e) } in x) es) (sym (open_ends_are_left N S io items by o open_so).ends)

pub told_ends_are_left : (N S : Type 0) → ToldEndsAreLeft N S
told_ends_are_left N S io items by o open_so h say holds = told_all io items by o open_so h say holds
