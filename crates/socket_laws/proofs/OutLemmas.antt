-- The ends that an item puts out of use, and what is left of a kind's state by it.
use Rattle.std.specs.Prelude.{◌≡◌, ◌&&◌, ◌||◌, Bool, true, false, not, cond, List, [], ◌∷◌, ◌++◌, All, if◌then◌else◌, map, filter, refl}
use Rattle.std.specs.List.{list_any}
use Rattle.std.proofs.Common.{sym, ap, ◌∙◌, subst}
use Rattle.std.proofs.lemmas.List.{append_assoc}
use Rattle.std.proofs.lemmas.List.Elements.{All-nil, All-cons, All-head, All-tail, All-weaker}
use Rattle.zq_base.specs.declared.ids.EndId.{EndId}
use Rattle.spec_pattern.specs.PipeStep.{same_pipe}
use Rattle.spec_pattern.specs.Pattern.{Pattern, attach_as, detach}
use Rattle.spec_control.specs.declared.end.EndState.{EndState}
use Rattle.spec_control.specs.declared.end.EndState.TheVariants.{Active, DelimiterGot, WaitDelimiter, AckSent, AskedOnce, AskedTwice, Gone}
use Rattle.spec_control.specs.declared.entry.Joining.{Joining}
use Rattle.spec_control.specs.Place.{Place, Unmade, Away, At, is_here}
use Rattle.spec_control.specs.Control.{is_end}
use Rattle.control_laws.proofs.ListLemmas.{never}
use Rattle.control_laws.proofs.AskLemmas.{end_self, same_end}
use Rattle.control_laws.specs.AttachedOnce.{AreOnce}
use Rattle.control_laws.proofs.MoveLemmas.{is_at}
use Rattle.spec_pattern.specs.Peers.{listed_peers, kept_ends}
use Rattle.desk.specs.Holding.{is_state}
use Rattle.desk.specs.Turns.{state_before, turn_at, turned_over}
use Rattle.spec_run.specs.OpenSocket.{SockEnd, place_in, is_out, attach_all, detach_all}
use Rattle.sock_core.specs.Way.{outs_of}
use Rattle.any_sock.proofs.PlaceLemmas.{all_behind}
use Rattle.socket_laws.specs.Peers.{IsNoPeer}
use Rattle.socket_laws.proofs.ReadLemmas.{among_ends}
use Rattle.socket_laws.proofs.EndLemmas.{all_both, same_as_end, none_among, among_none}
use Rattle.socket_laws.proofs.PeerLemmas.{once_gone, kept_less, no_peer_then, nothing_gone, of_listed, kept_answered, once_answered}

-- ---- where an end of a socket is
abbrev pub told_ends : (EndId → Place) → List EndId → List SockEnd
told_ends f es = map (λ e. record { end = e; place = f e }) es

pub place_told : (f : EndId → Place) (es : List EndId) (e : EndId) → list_any (is_end e) es ≡ true → place_in (told_ends f es) e ≡ f e
place_told f [] e is = absurd (never is)
place_told f (x ∷ es) e is = by (is_end e x) refl (place_told f es e) is
  where
    by : (b : Bool) → is_end e x ≡ b → (list_any (is_end e) es ≡ true → place_in (told_ends f es) e ≡ f e) → (b || list_any (is_end e) es) ≡ true → (if b then f x else place_in (told_ends f es) e) ≡ f e
    by true alike rest found = ap f (sym (same_end e x alike))
    by false other rest found = rest found

pub place_untold : (f : EndId → Place) (es : List EndId) (e : EndId) → list_any (is_end e) es ≡ false → place_in (told_ends f es) e ≡ Unmade
place_untold f [] e is = refl
place_untold f (x ∷ es) e is = by (is_end e x) (place_untold f es e) is
  where
    by : (b : Bool) → (list_any (is_end e) es ≡ false → place_in (told_ends f es) e ≡ Unmade) → (b || list_any (is_end e) es) ≡ false → (if b then f x else place_in (told_ends f es) e) ≡ Unmade
    by true rest none = absurd (never (sym none))
    by false rest none = rest none

pub ends_told_of : (f : EndId → Place) (es : List EndId) (e : EndId) → list_any (λ x. is_end e x.end) (told_ends f es) ≡ list_any (is_end e) es
ends_told_of f [] e = refl
ends_told_of f (x ∷ es) e = ap (λ (b : Bool). is_end e x || b) (ends_told_of f es e)

-- each of these is among them
pub all_among : (es : List EndId) → All (λ e. list_any (is_end e) es ≡ true) es
all_among [] = All-nil (λ e. list_any (is_end e) [] ≡ true)
all_among (x ∷ es) =
    All-cons (λ e. list_any (is_end e) (x ∷ es) ≡ true) x es (ap (λ (b : Bool). b || list_any (is_end x) es) (end_self x))
    (All-weaker (λ e. list_any (is_end e) es ≡ true) (λ e. list_any (is_end e) (x ∷ es) ≡ true) (λ e is. ap (λ (b : Bool). is_end e x || b) is ∙ either (is_end e x)) es (all_among es))
  where
    either : (b : Bool) → (b || true) ≡ true
    either true = refl
    either false = refl

-- ---- one end
-- it goes out of use in a change of state, or it was out before and is told once more
pub data Step (e : EndId) (p q : Place) (had : Bool) : Type 0 where
  goes : outs_of (turn_at e p q) ≡ cond (is_out q && not had) (e ∷ []) [] → Step e p q had
  told_more : outs_of (turn_at e p q) ≡ e ∷ [] → is_out q ≡ true → had ≡ true → Step e p q had

same_out : (a b : EndState) → is_out (At b) ≡ true → is_state (state_before (At a) b) b ≡ true → is_out (At a) ≡ true
same_out Active Active out is = absurd (never out)
same_out Active DelimiterGot out is = absurd (never is)
same_out Active WaitDelimiter out is = absurd (never out)
same_out Active AckSent out is = absurd (never is)
same_out Active AskedOnce out is = absurd (never is)
same_out Active AskedTwice out is = absurd (never is)
same_out Active Gone out is = absurd (never is)
same_out DelimiterGot b out is = refl
same_out WaitDelimiter Active out is = absurd (never out)
same_out WaitDelimiter DelimiterGot out is = absurd (never is)
same_out WaitDelimiter WaitDelimiter out is = absurd (never out)
same_out WaitDelimiter AckSent out is = absurd (never is)
same_out WaitDelimiter AskedOnce out is = absurd (never is)
same_out WaitDelimiter AskedTwice out is = absurd (never is)
same_out WaitDelimiter Gone out is = absurd (never is)
same_out AckSent b out is = refl
same_out AskedOnce b out is = refl
same_out AskedTwice b out is = refl
same_out Gone b out is = refl

state_step : (e : EndId) (a b : EndState) → Step e (At a) (At b) (is_out (At a))
state_step e a b = by (is_out (At b)) refl (is_state (state_before (At a) b) b) refl (is_out (At a)) refl
  where
    outs : (o : Bool) → is_out (At b) ≡ o → (t : Bool) → outs_of (if t then [] else (e, b) ∷ []) ≡ (if t then [] else (if o then e ∷ [] else []))
    outs o is true = refl
    outs o is false = ap (λ (x : Bool). if x then e ∷ [] else []) is

    told : (o : Bool) → is_out (At b) ≡ o → (t : Bool) → is_state (state_before (At a) b) b ≡ t → outs_of (turn_at e (At a) (At b)) ≡ (if t then [] else (if o then e ∷ [] else []))
    told o out t is = ap (λ (x : Bool). outs_of (if x then [] else (e, b) ∷ [])) is ∙ outs o out t

    flag : (o : Bool) → is_out (At b) ≡ o → (h : Bool) → is_out (At a) ≡ h → cond (is_out (At b) && not (is_out (At a))) (e ∷ []) [] ≡ cond (o && not h) (e ∷ []) []
    flag o out h had = ap (λ (x : Bool). cond (x && not (is_out (At a))) (e ∷ []) []) out ∙ ap (λ (x : Bool). cond (o && not x) (e ∷ []) []) had

    by : (o : Bool) → is_out (At b) ≡ o → (t : Bool) → is_state (state_before (At a) b) b ≡ t → (h : Bool) → is_out (At a) ≡ h → Step e (At a) (At b) (is_out (At a))
    by false out true is h had = goes (told false out true is ∙ sym (flag false out h had))
    by false out false is h had = goes (told false out false is ∙ sym (flag false out h had))
    by true out true is true had = goes (told true out true is ∙ sym (flag true out true had))
    by true out true is false had = absurd (never (sym had ∙ same_out a b out is))
    by true out false is true had = told_more (told true out false is) out had
    by true out false is false had = goes (told true out false is ∙ sym (flag true out false had))

-- of an end that the socket had
pub old_step : (e : EndId) (p q : Place) → is_at p ≡ true → is_at q ≡ true → Step e p q (is_out p)
old_step e Unmade q at now = absurd (never at)
old_step e Away q at now = absurd (never at)
old_step e (At a) Unmade at now = absurd (never now)
old_step e (At a) Away at now = absurd (never now)
old_step e (At a) (At b) at now = state_step e a b

-- and of one that joins
begun_step : (e : EndId) (b : EndState) → is_here (At b) ≡ true → outs_of (if is_state Active b then [] else (e, b) ∷ []) ≡ cond (is_out (At b) && true) (e ∷ []) []
begun_step e Active here = refl
begun_step e DelimiterGot here = refl
begun_step e WaitDelimiter here = refl
begun_step e AckSent here = refl
begun_step e AskedOnce here = refl
begun_step e AskedTwice here = refl
begun_step e Gone here = absurd (never here)

gone_step : (e : EndId) (b : EndState) → is_here (At b) ≡ true → outs_of (turn_at e (At Gone) (At b)) ≡ cond (is_out (At b) && true) (e ∷ []) []
gone_step e Active here = refl
gone_step e DelimiterGot here = refl
gone_step e WaitDelimiter here = refl
gone_step e AckSent here = refl
gone_step e AskedOnce here = refl
gone_step e AskedTwice here = refl
gone_step e Gone here = absurd (never here)

pub new_step : (e : EndId) (p q : Place) → is_here p ≡ false → is_here q ≡ true → Step e p q false
new_step e p Unmade off here = absurd (never here)
new_step e p Away off here = absurd (never here)
new_step e Unmade (At b) off here = goes (begun_step e b here)
new_step e Away (At b) off here = goes (begun_step e b here)
new_step e (At Active) (At b) off here = absurd (never (sym off))
new_step e (At DelimiterGot) (At b) off here = absurd (never (sym off))
new_step e (At WaitDelimiter) (At b) off here = absurd (never (sym off))
new_step e (At AckSent) (At b) off here = absurd (never (sym off))
new_step e (At AskedOnce) (At b) off here = absurd (never (sym off))
new_step e (At AskedTwice) (At b) off here = absurd (never (sym off))
new_step e (At Gone) (At b) off here = goes (gone_step e b here)

-- ---- over ends
outs_append : (xs ys : List (EndId × EndState)) → outs_of (xs ++ ys) ≡ outs_of xs ++ outs_of ys
outs_append [] ys = refl
outs_append (x ∷ xs) ys = by (is_out (At x.1)) (outs_append xs ys)
  where
    by : (b : Bool) → outs_of (xs ++ ys) ≡ outs_of xs ++ outs_of ys → (if b then x.0 ∷ outs_of (xs ++ ys) else outs_of (xs ++ ys)) ≡ (if b then x.0 ∷ outs_of xs else outs_of xs) ++ outs_of ys
    by true rest = ap (λ (es : List EndId). x.0 ∷ es) rest
    by false rest = rest

module _ (before now : EndId → Place) (had : EndId → Bool) where
  abbrev pub Steps : List EndId → Type 0
  Steps es = All (λ e. Step e (before e) (now e) (had e)) es

  abbrev pub leaves : EndId → Bool
  leaves e = is_out (now e) && not (had e)

  -- the ends that went out before are no peers, and detaching them is nothing
  pub detach_outs : (es : List EndId) (p : Pattern) → Steps es → AreOnce (listed_peers p) → ((e : EndId) → had e ≡ true → IsNoPeer e p) →
      detach_all (outs_of (turned_over before now es)) p ≡ detach_all (filter leaves es) p
  detach_outs [] p steps once none = refl
  detach_outs (e ∷ es) p steps once none =
      ap (λ (xs : List EndId). detach_all xs p) (outs_append (turn_at e (before e) (now e)) (turned_over before now es))
      ∙ by (All-head (λ x. Step x (before x) (now x) (had x)) e es steps) (detach_outs es p rest once none)
      (detach_outs es (detach e p) rest (once_gone e p once) (λ x is. kept_less e (λ y. same_pipe x y ≡ false) p once (none x is)))
    where
      rest : Steps es
      rest = All-tail (λ x. Step x (before x) (now x) (had x)) e es steps

      by : Step e (before e) (now e) (had e) → detach_all (outs_of (turned_over before now es)) p ≡ detach_all (filter leaves es) p →
          detach_all (outs_of (turned_over before now es)) (detach e p) ≡ detach_all (filter leaves es) (detach e p) →
          detach_all (outs_of (turn_at e (before e) (now e)) ++ outs_of (turned_over before now es)) p ≡ detach_all (filter leaves (e ∷ es)) p
      by (goes is) stays gone =
          ap (λ (xs : List EndId). detach_all (xs ++ outs_of (turned_over before now es)) p) is ∙ flag (leaves e)
        where
          flag : (b : Bool) → detach_all (cond b (e ∷ []) [] ++ outs_of (turned_over before now es)) p ≡ detach_all (cond b (e ∷ filter leaves es) (filter leaves es)) p
          flag true = gone
          flag false = stays
      by (told_more is out was) stays gone =
          ap (λ (xs : List EndId). detach_all (xs ++ outs_of (turned_over before now es)) p) is
          ∙ ap (λ (q : Pattern). detach_all (outs_of (turned_over before now es)) q) (nothing_gone e p (none e was)) ∙ stays
          ∙ ap (λ (b : Bool). detach_all (cond b (e ∷ filter leaves es) (filter leaves es)) p) (sym (ap (λ (b : Bool). is_out (now e) && not b) was ∙ no_and (is_out (now e))))
        where
          no_and : (b : Bool) → (b && false) ≡ false
          no_and true = refl
          no_and false = refl

-- ---- the ends that are left
pub once_left : (es : List EndId) (p : Pattern) → AreOnce (listed_peers p) → AreOnce (listed_peers (detach_all es p))
once_left [] p once = once
once_left (e ∷ es) p once = once_left es (detach e p) (once_gone e p once)

pub kept_left : (P : EndId → Type 0) (es : List EndId) (p : Pattern) → AreOnce (listed_peers p) → All P (kept_ends p) → All P (kept_ends (detach_all es p))
kept_left P [] p once all = all
kept_left P (e ∷ es) p once all = kept_left P es (detach e p) (once_gone e p once) (kept_less e P p once all)

-- none of those that went
pub none_left : (es : List EndId) (p : Pattern) → AreOnce (listed_peers p) → All (λ y. list_any (is_end y) es ≡ false) (kept_ends (detach_all es p))
none_left [] p once = λ k y lt. refl
none_left (e ∷ es) p once =
    all_both (λ y. same_pipe e y ≡ false) (λ y. list_any (is_end y) es ≡ false) (λ y. list_any (is_end y) (e ∷ es) ≡ false)
    (λ y other none. ap (λ (b : Bool). b || list_any (is_end y) es) (apart y other) ∙ none) (kept_ends (detach_all es (detach e p))) (kept_left (λ y. same_pipe e y ≡ false) es (detach e p) (once_gone e p once) (no_peer_then e p once)) (none_left es (detach e p) (once_gone e p once))
  where
    apart : (y : EndId) → same_pipe e y ≡ false → is_end y e ≡ false
    apart y other = by (is_end y e) refl
      where
        by : (b : Bool) → is_end y e ≡ b → b ≡ false
        by true is = absurd (never (sym (sym (same_as_end e y) ∙ other) ∙ (ap (is_end e) (same_end y e is) ∙ end_self e)))
        by false is = refl

-- ---- the ends that come
module _ {N : Type 0} where
  pub kept_come : (P : EndId → Type 0) (js : List (Joining N)) (p : Pattern) → All P (kept_ends p) → All P (map (λ j. j.end) js) → All P (kept_ends (attach_all js p))
  kept_come P [] p all new = all
  kept_come P (j ∷ js) p all new =
      kept_come P js (attach_as j.answer j.end j.peer p) (kept_answered P j.end (All-head P j.end (map (λ x. x.end) js) new) j.answer j.peer p all) (All-tail P j.end (map (λ x. x.end) js) new)

  -- where each peer is one of these ends, and none of those that come
  pub once_come : (js : List (Joining N)) (known : List EndId) (p : Pattern) → AreOnce (listed_peers p) → All (λ y. list_any (is_end y) known ≡ true) (kept_ends p) → AreOnce (known ++ map (λ j. j.end) js) →
      AreOnce (listed_peers (attach_all js p))
  once_come [] known p once all apart = once
  once_come (j ∷ js) known p once all apart =
      once_come js (known ++ j.end ∷ []) (attach_as j.answer j.end j.peer p) (once_answered j.answer j.end j.peer p once new)
      (kept_answered (λ y. list_any (is_end y) (known ++ j.end ∷ []) ≡ true) j.end here j.answer j.peer p (All-weaker (λ y. list_any (is_end y) known ≡ true) (λ y. list_any (is_end y) (known ++ j.end ∷ []) ≡ true) (λ y is. front y known is) (kept_ends p) all))
      (subst AreOnce (sym (append_assoc known (j.end ∷ []) (map (λ x. x.end) js))) apart)
    where
      front : (y : EndId) (es : List EndId) → list_any (is_end y) es ≡ true → list_any (is_end y) (es ++ j.end ∷ []) ≡ true
      front y [] is = absurd (never is)
      front y (x ∷ es) is = by (is_end y x) (front y es) is
        where
          by : (b : Bool) → (list_any (is_end y) es ≡ true → list_any (is_end y) (es ++ j.end ∷ []) ≡ true) → (b || list_any (is_end y) es) ≡ true → (b || list_any (is_end y) (es ++ j.end ∷ [])) ≡ true
          by true rest found = refl
          by false rest found = rest found

      last : (es : List EndId) → list_any (is_end j.end) (es ++ j.end ∷ []) ≡ true
      last [] = ap (λ (b : Bool). b || false) (end_self j.end)
      last (x ∷ es) = ap (λ (b : Bool). is_end j.end x || b) (last es) ∙ either (is_end j.end x)
        where
          either : (b : Bool) → (b || true) ≡ true
          either true = refl
          either false = refl

      here : list_any (is_end j.end) (known ++ j.end ∷ []) ≡ true
      here = last known

      -- it is none of the known ones
      unknown : (es : List EndId) → AreOnce (es ++ j.end ∷ map (λ x. x.end) js) → All (λ y. is_end y j.end ≡ false) es
      unknown [] o = All-nil (λ y. is_end y j.end ≡ false)
      unknown (x ∷ es) o =
          All-cons (λ y. is_end y j.end ≡ false) x es
          (All-head (λ y. is_end x y ≡ false) j.end (map (λ x. x.end) js) (all_behind (λ y. is_end x y ≡ false) es (j.end ∷ map (λ x. x.end) js) (none_among x (es ++ j.end ∷ map (λ x. x.end) js) o.0)))
          (unknown es o.1)

      new : list_any (is_end j.end) (listed_peers p) ≡ false
      new =
          among_none j.end (listed_peers p)
          (All-weaker (λ y. list_any (is_end y) known ≡ true) (λ y. is_end j.end y ≡ false) apart_from (listed_peers p) (of_listed (λ y. list_any (is_end y) known ≡ true) p all))
        where
          apart_from : (y : EndId) → list_any (is_end y) known ≡ true → is_end j.end y ≡ false
          apart_from y is = by (is_end j.end y) refl
            where
              by : (b : Bool) → is_end j.end y ≡ b → b ≡ false
              by true alike = absurd (never (sym (among_ends (λ z. is_end z j.end ≡ false) known (unknown known apart) y is) ∙ (ap (is_end y) (same_end j.end y alike) ∙ end_self y)))
              by false other = refl
