-- An acknowledgement that comes to an end, in the control state and at its holder.
use Rattle.std.specs.Prelude.{◌≡◌, ◌≢◌, ◌<◌, ◌≤◌, ◌+◌, ◌⊎◌, ◌&&◌, ◌||◌, ◌==◌, ◌∷◌, [], ℕ, Bool, true, false, not, cond, List, Option, Some, None, All, map, filter, length, if◌then◌else◌, refl}
use Rattle.std.proofs.Common.{arith, sym, ap, ◌∙◌, subst, inl, inr}
use Rattle.std.proofs.lemmas.Bool.{cases_eq, eqb-true, eq-eqb}
use Rattle.std.proofs.lemmas.List.{get_or-set_same, get_or-set_other}
use Rattle.mailbox.specs.Mail.{Mail, no_mail, with_sent}
use Rattle.ctl_state.specs.declared.command.Command.{Command}
use Rattle.ctl_state.specs.declared.state.State.{State}
use Rattle.ctl_state.specs.Boxes.{mail_at, with_mail}
use Rattle.ctl_state.specs.Parts.{sent_to}
use Rattle.ctl_state.specs.Pairs.{FitsAt}
use Rattle.spec_control.proofs.ReadOutLemmas.{met_ends_are_read_out}
use Rattle.ctl_state.specs.Stands.{tells}
use Rattle.ctl_state.proofs.StandLemmas.{roomy}
use Rattle.std.proofs.lemmas.List.Elements.{All-filter, filter_agree}
use Rattle.zq_base.specs.declared.ids.EndId.{EndId}
use Rattle.spec_control.specs.declared.end.EndState.{EndState}
use Rattle.spec_control.specs.declared.end.EndState.TheVariants.{Active, DelimiterGot, WaitDelimiter, AckSent, AskedOnce, AskedTwice, Gone}
use Rattle.spec_control.specs.declared.end.EndEvent.TheVariants.{AckCame}
use Rattle.spec_control.specs.declared.end.EndCommands.{EndCommands}
use Rattle.spec_control.specs.declared.end.Reason.{Reason}
use Rattle.spec_control.specs.EndLife.{cell, comes, commands_of, state_after}
use Rattle.spec_control.specs.Place.{Place, At, is_here}
use Rattle.spec_control.specs.Control.{Control, reason_in, met_in, happens, is_end, owner_of, place_of, with_end}
use Rattle.spec_control.specs.Held.{Held}
use Rattle.control_laws.proofs.ListLemmas.{never, clash}
use Rattle.control_laws.proofs.AskLemmas.{same_end, end_self}
use Rattle.desk.specs.Holding.{Holding, Left, KeepsTurns, NoneWrites, has_end, without_end}
use Rattle.desk.specs.Lent.{has_writer, here_ends, HasBothNames, HasEnds, HasAll}
use Rattle.ctl_moves.specs.Turning.{yields, needs_writer, seals_for, Turned}
use Rattle.ctl_moves.proofs.TurnLemmas.{ends_same, now_at, else_at, same_owner, same_attached, reasons_now, ToldAs, states_told}

-- ---- the table
pub ack_writer : (state : EndState) → comes AckCame state ≡ true → (if yields (commands_of (cell AckCame state)) then false else has_writer (At state)) ≡ false
ack_writer Active h = absurd (never h)
ack_writer DelimiterGot h = absurd (never h)
ack_writer WaitDelimiter h = absurd (never h)
ack_writer AckSent h = refl
ack_writer AskedOnce h = refl
ack_writer AskedTwice h = refl
ack_writer Gone h = absurd (never h)

pub ack_needed : (state : EndState) → needs_writer (commands_of (cell AckCame state)) ≡ true → has_writer (At state) ≡ true
ack_needed Active h = absurd (never h)
ack_needed DelimiterGot h = absurd (never h)
ack_needed WaitDelimiter h = absurd (never h)
ack_needed AckSent h = absurd (never h)
ack_needed AskedOnce h = refl
ack_needed AskedTwice h = absurd (never h)
ack_needed Gone h = absurd (never h)

-- its pipe was sealed before
pub ack_seals : (state : EndState) (e : EndId) → comes AckCame state ≡ true → seals_for (commands_of (cell AckCame state)) e ≡ []
ack_seals Active e h = absurd (never h)
ack_seals DelimiterGot e h = absurd (never h)
ack_seals WaitDelimiter e h = absurd (never h)
ack_seals AckSent e h = refl
ack_seals AskedOnce e h = refl
ack_seals AskedTwice e h = refl
ack_seals Gone e h = absurd (never h)

pub ack_goes : (state : EndState) → comes AckCame state ≡ true → state_after (cell AckCame state) state ≡ Gone
ack_goes Active h = absurd (never h)
ack_goes DelimiterGot h = absurd (never h)
ack_goes WaitDelimiter h = absurd (never h)
ack_goes AckSent h = refl
ack_goes AskedOnce h = refl
ack_goes AskedTwice h = refl
ack_goes Gone h = absurd (never h)

gone_unmet : (reason : Option Reason) → met_in (At Gone) reason ≡ true → ⊥
gone_unmet None h = never h
gone_unmet (Some reason) h = never h

pub and_true : (x w : Bool) → (if x && true then false else w) ≡ (if x then false else w)
and_true true w = refl
and_true false w = refl

-- an end to which the other's acknowledgement comes, and which has no reason, has met its delimiter
pub met_at_ack : (place : Place) (reason : Option Reason) (state : EndState) → place ≡ At state → comes AckCame state ≡ true → FitsAt place reason → reason ≡ None → met_in place reason ≡ true
met_at_ack place reason state is may_come fits none =
    ap (λ (p : Place). met_in p reason) is
    ∙ met_ends_are_read_out.settled (record { state = state; reason = reason }) (subst (λ (p : Place). FitsAt p reason) is fits) may_come none

-- ---- lists without an end
filter_twice : (p q r : EndId → Bool) (es : List EndId) → ((d : EndId) → r d ≡ (p d && q d)) → filter r es ≡ filter q (filter p es)
filter_twice p q r [] same = refl
filter_twice p q r (d ∷ es) same = ap (λ (b : Bool). cond b (d ∷ filter r es) (filter r es)) (same d) ∙ by (p d) (q d) refl (filter_twice p q r es same)
  where
    by : (x y : Bool) → q d ≡ y → filter r es ≡ filter q (filter p es) → cond (x && y) (d ∷ filter r es) (filter r es) ≡ filter q (cond x (d ∷ filter p es) (filter p es))
    by true true h rest = ap (λ (l : List EndId). d ∷ l) rest ∙ sym (ap (λ (b : Bool). cond b (d ∷ filter q (filter p es)) (filter q (filter p es))) h)
    by true false h rest = rest ∙ sym (ap (λ (b : Bool). cond b (d ∷ filter q (filter p es)) (filter q (filter p es))) h)
    by false y h rest = rest

-- a test that all pass takes nothing away
pass_all : (p q r : EndId → Bool) (es : List EndId) → ((d : EndId) → p d ≡ true → r d ≡ true) → filter r (filter q (filter p es)) ≡ filter q (filter p es)
pass_all p q r [] pass = refl
pass_all p q r (d ∷ es) pass = by (p d) refl (q d) (pass_all p q r es pass)
  where
    keep : (b : Bool) → b ≡ true → (l m : List EndId) → l ≡ m → cond b (d ∷ l) l ≡ d ∷ m
    keep true h l m same = ap (λ (x : List EndId). d ∷ x) same
    keep false h l m same = absurd (never h)

    inner : p d ≡ true → (y : Bool) → filter r (filter q (filter p es)) ≡ filter q (filter p es) → filter r (cond y (d ∷ filter q (filter p es)) (filter q (filter p es))) ≡ cond y (d ∷ filter q (filter p es)) (filter q (filter p es))
    inner h true rest = keep (r d) (pass d h) (filter r (filter q (filter p es))) (filter q (filter p es)) rest
    inner h false rest = rest

    by : (x : Bool) → p d ≡ x → (y : Bool) → filter r (filter q (filter p es)) ≡ filter q (filter p es) → filter r (filter q (cond x (d ∷ filter p es) (filter p es))) ≡ filter q (cond x (d ∷ filter p es) (filter p es))
    by true h y rest = inner h (q d) rest
    by false h y rest = rest

module _ {N : Type 0} where
  map_without : (e : EndId) (hs : List (Held N)) → map (λ x. x.end) (without_end e hs) ≡ filter (λ d. not (is_end e d)) (map (λ x. x.end) hs)
  map_without e [] = refl
  map_without e (x ∷ hs) = by (not (is_end e x.end)) (map_without e hs)
    where
      by : (b : Bool) → map (λ y. y.end) (without_end e hs) ≡ filter (λ d. not (is_end e d)) (map (λ y. y.end) hs) →
          map (λ y. y.end) (cond b (x ∷ without_end e hs) (without_end e hs)) ≡ cond b (x.end ∷ filter (λ d. not (is_end e d)) (map (λ y. y.end) hs)) (filter (λ d. not (is_end e d)) (map (λ y. y.end) hs))
      by true rest = ap (λ (l : List EndId). x.end ∷ l) rest
      by false rest = rest

  had_without : (e d : EndId) (hs : List (Held N)) → has_end d (without_end e hs) ≡ true → has_end d hs ≡ true
  had_without e d [] h = h
  had_without e d (x ∷ hs) h = by (not (is_end e x.end)) h (had_without e d hs)
    where
      or_right : (b : Bool) → (b || true) ≡ true
      or_right true = refl
      or_right false = refl

      later : (b : Bool) → has_end d hs ≡ true → (b || has_end d hs) ≡ true
      later b k = ap (λ (z : Bool). b || z) k ∙ or_right b

      first : (b : Bool) → (b || has_end d (without_end e hs)) ≡ true → (has_end d (without_end e hs) ≡ true → has_end d hs ≡ true) → (b || has_end d hs) ≡ true
      first true k rest = refl
      first false k rest = rest k

      by : (b : Bool) → has_end d (cond b (x ∷ without_end e hs) (without_end e hs)) ≡ true → (has_end d (without_end e hs) ≡ true → has_end d hs ≡ true) → (is_end d x.end || has_end d hs) ≡ true
      by true k rest = first (is_end d x.end) k rest
      by false k rest = later (is_end d x.end) (rest k)

-- the two are one end, whichever is asked
pub end_sym : (d e : EndId) → is_end d e ≡ is_end e d
end_sym d e = by (is_end d e) refl (is_end e d) refl
  where
    by : (x : Bool) → is_end d e ≡ x → (y : Bool) → is_end e d ≡ y → x ≡ y
    by true h true k = refl
    by true h false k = absurd (clash (is_end e d) (ap (λ (z : EndId). is_end e z) (same_end d e h) ∙ end_self e) k)
    by false h true k = absurd (clash (is_end d e) (ap (λ (z : EndId). is_end d z) (same_end e d k) ∙ end_self d) h)
    by false h false k = refl

-- an end that is there once another left was there before
pub left_had : {N : Type 0} (o : ℕ) (e : EndId) (m k : Holding N) → Left o e m k → (i : ℕ) (d : EndId) → has_end d (k.ends i) ≡ true → has_end d (m.ends i) ≡ true
left_had o e m k gone i d here = by (cases_eq i o)
  where
    by : (i ≡ o) ⊎ (i ≡ o → ⊥) → has_end d (m.ends i) ≡ true
    by (inl same) = had_without e d (m.ends i) (subst (λ (hs : List (Held _)). has_end d hs ≡ true) (ap k.ends same ∙ gone.now.ends ∙ ap (λ (n : ℕ). without_end e (m.ends n)) (sym same)) here)
    by (inr other) = subst (λ (hs : List (Held _)). has_end d hs ≡ true) (gone.now.others i other) here

-- what was told is told still
pub told_less : {N : Type 0} (commands : EndCommands) (e : EndId) (state : EndState) (h m k : Holding N) → ToldAs commands e state h m → ((i : ℕ) (d : EndId) → has_end d (k.ends i) ≡ true → has_end d (m.ends i) ≡ true) → KeepsTurns m k →
    ToldAs commands e state h k
told_less commands e state h m k told had keeps = record {
  states = λ i d here. keeps.states i d here ∙ told.states i d (had i d here);
  turns = keeps.turns ∙ told.turns;
  sealed = keeps.sealed ∙ told.sealed;
  joined = keeps.joined ∙ told.joined;
}

-- a holder that gave a writing half away has no more of them than before
pub none_writes : {N : Type 0} (exact : Bool) (name : N) (o : ℕ) (e : EndId) (yielded : Bool) (h k : Holding N) → Turned o e yielded h k → NoneWrites exact name h → NoneWrites exact name k
none_writes exact name o e yielded h k turned none is i holds =
    subst (λ (hs : List (Held _)). All (λ x. k.writes x.end ≡ true → x.written ≡ name → ⊥) hs) (sym (ends_same o e h k yielded turned i))
    (λ j x lt writes. none is i (sym (turned.now.objects i) ∙ holds) j x lt (was _ writes))
  where
    less : (b w : Bool) → (if b then false else w) ≡ true → w ≡ true
    less true w is_so = absurd (never is_so)
    less false w is_so = is_so

    was : (d : EndId) → k.writes d ≡ true → h.writes d ≡ true
    was d writes = less (yielded && is_end d e) (h.writes d) (sym (turned.writers d) ∙ writes)

module _ (c : Control) (e : EndId) (state : EndState) (there : place_of c e ≡ At state) (within : e.pair.0 < length c.rows.pairs) (may_come : comes AckCame state ≡ true) where
  at_gone : (d : EndId) → is_end d e ≡ true → place_of (happens AckCame e c) d ≡ At Gone
  at_gone d same = now_at c AckCame e state there within d same ∙ ap At (ack_goes state may_come)

  here_then : (d : EndId) → is_here (place_of (happens AckCame e c) d) ≡ (is_here (place_of c d) && not (is_end e d))
  here_then d = by (is_end d e) refl
    where
      no_more : (b : Bool) → false ≡ (b && false)
      no_more true = refl
      no_more false = refl

      still : (b : Bool) → b ≡ (b && true)
      still true = refl
      still false = refl

      by : (b : Bool) → is_end d e ≡ b → is_here (place_of (happens AckCame e c) d) ≡ (is_here (place_of c d) && not (is_end e d))
      by true same = ap is_here (at_gone d same) ∙ no_more (is_here (place_of c d)) ∙ sym (ap (λ (x : Bool). is_here (place_of c d) && not x) (end_sym e d ∙ same))
      by false other = ap is_here (else_at c AckCame e state there within d other) ∙ still (is_here (place_of c d)) ∙ sym (ap (λ (x : Bool). is_here (place_of c d) && not x) (end_sym e d ∙ other))

  -- the ends of an object that are there then
  here_less : (i : ℕ) → here_ends (happens AckCame e c).rows.pairs c.attached i ≡ filter (λ d. not (is_end e d)) (here_ends c.rows.pairs c.attached i)
  here_less i =
      ap (λ (es : List EndId). filter (λ d. is_here (place_of (happens AckCame e c) d)) es)
      (filter_agree (λ d. owner_of (happens AckCame e c) d == i) (λ d. owner_of c d == i) (λ d. ap (λ (n : ℕ). n == i) (same_owner c AckCame e state there within d)) c.attached)
      ∙ filter_twice (λ d. is_here (place_of c d)) (λ d. not (is_end e d)) (λ d. is_here (place_of (happens AckCame e c) d)) (filter (λ d. owner_of c d == i) c.attached) here_then

  -- those of another object are as before
  here_other : (i : ℕ) → i ≢ owner_of c e → filter (λ d. not (is_end e d)) (here_ends c.rows.pairs c.attached i) ≡ here_ends c.rows.pairs c.attached i
  here_other i other = pass_all (λ d. owner_of c d == i) (λ d. is_here (place_of c d)) (λ d. not (is_end e d)) c.attached pass
    where
      pass : (d : EndId) → (owner_of c d == i) ≡ true → not (is_end e d) ≡ true
      pass d own = by (is_end e d) refl
        where
          by : (b : Bool) → is_end e d ≡ b → not b ≡ true
          by true same = absurd (other (sym (eqb-true (owner_of c d) i own) ∙ ap (owner_of c) (sym (same_end e d same))))
          by false h = refl

  module _ {N : Type 0} (names : EndId → Option N) (h m k : Holding N) (turned : Turned (owner_of c e) e (yields (commands_of (cell AckCame state))) h m) (gone : Left (owner_of c e) e m k)
      (told : ToldAs (commands_of (cell AckCame state)) e (state_after (cell AckCame state) state) h k) where
    lists : (i : ℕ) → m.ends i ≡ h.ends i
    lists i = ends_same (owner_of c e) e h m (yields (commands_of (cell AckCame state))) turned i

    ends_then : (i : ℕ) → HasEnds names c.rows.pairs c.attached c.reasons h i → map (λ x. x.end) (k.ends i) ≡ here_ends (happens AckCame e c).rows.pairs c.attached i
    ends_then i has = by (cases_eq i (owner_of c e))
      where
        by : (i ≡ owner_of c e) ⊎ (i ≡ owner_of c e → ⊥) → map (λ x. x.end) (k.ends i) ≡ here_ends (happens AckCame e c).rows.pairs c.attached i
        by (inl same) =
            ap (λ (hs : List (Held N)). map (λ x. x.end) hs) (ap k.ends same ∙ gone.now.ends ∙ ap (without_end e) (ap m.ends (sym same) ∙ lists i))
            ∙ map_without e (h.ends i) ∙ ap (filter (λ d. not (is_end e d))) has.ends ∙ sym (here_less i)
        by (inr other) =
            ap (λ (hs : List (Held N)). map (λ x. x.end) hs) (gone.now.others i other ∙ lists i) ∙ has.ends ∙ sym (here_other i other) ∙ sym (here_less i)

    had : (i : ℕ) (d : EndId) → has_end d (k.ends i) ≡ true → has_end d (m.ends i) ≡ true
    had i d here = by (cases_eq i (owner_of c e))
      where
        by : (i ≡ owner_of c e) ⊎ (i ≡ owner_of c e → ⊥) → has_end d (m.ends i) ≡ true
        by (inl same) = had_without e d (m.ends i) (subst (λ (hs : List (Held N)). has_end d hs ≡ true) (ap k.ends same ∙ gone.now.ends ∙ ap (λ (n : ℕ). without_end e (m.ends n)) (sym same)) here)
        by (inr other) = subst (λ (hs : List (Held N)). has_end d hs ≡ true) (gone.now.others i other) here

    named_then : (i : ℕ) → All (HasBothNames names) (h.ends i) → All (HasBothNames names) (k.ends i)
    named_then i all = by (cases_eq i (owner_of c e))
      where
        by : (i ≡ owner_of c e) ⊎ (i ≡ owner_of c e → ⊥) → All (HasBothNames names) (k.ends i)
        by (inl same) =
            subst (λ (hs : List (Held N)). All (HasBothNames names) hs) (sym (ap k.ends same ∙ gone.now.ends ∙ ap (without_end e) (ap m.ends (sym same) ∙ lists i)))
            (All-filter (λ x. not (is_end e x.end)) (HasBothNames names) (h.ends i) all)
        by (inr other) = subst (λ (hs : List (Held N)). All (HasBothNames names) hs) (sym (gone.now.others i other ∙ lists i)) all

    writes_then : (i : ℕ) → HasEnds names c.rows.pairs c.attached c.reasons h i → (d : EndId) → has_end d (k.ends i) ≡ true → k.writes d ≡ has_writer (place_of (happens AckCame e c) d)
    writes_then i has d here = by (is_end d e) refl
      where
        keeps : (x w : Bool) → (if x && false then false else w) ≡ w
        keeps true w = refl
        keeps false w = refl

        by : (b : Bool) → is_end d e ≡ b → k.writes d ≡ has_writer (place_of (happens AckCame e c) d)
        by true same = gone.writers d ∙ ap (λ (x : Bool). if x then false else m.writes d) same ∙ sym (ap has_writer (at_gone d same))
        by false other =
            gone.writers d ∙ ap (λ (x : Bool). if x then false else m.writes d) other
            ∙ turned.writers d ∙ ap (λ (x : Bool). if yields (commands_of (cell AckCame state)) && x then false else h.writes d) other ∙ keeps (yields (commands_of (cell AckCame state))) (h.writes d)
            ∙ has.writes d (subst (λ (hs : List (Held N)). has_end d hs ≡ true) (lists i) (had i d here)) ∙ sym (ap has_writer (else_at c AckCame e state there within d other))

    met_then : (i : ℕ) → HasEnds names c.rows.pairs c.attached c.reasons h i → (d : EndId) → has_end d (k.ends i) ≡ true →
        met_in (place_of (happens AckCame e c) d) (with_end e (reason_in AckCame (place_of c e) (c.reasons e)) c.reasons d) ≡ true → k.at_delimiter d ≡ true
    met_then i has d here met = by (is_end d e) refl
      where
        was_here : has_end d (h.ends i) ≡ true
        was_here = subst (λ (hs : List (Held N)). has_end d hs ≡ true) (lists i) (had i d here)

        by : (b : Bool) → is_end d e ≡ b → k.at_delimiter d ≡ true
        by true same =
            absurd (gone_unmet (with_end e (reason_in AckCame (place_of c e) (c.reasons e)) c.reasons d)
            (sym (ap (λ (p : Place). met_in p (with_end e (reason_in AckCame (place_of c e) (c.reasons e)) c.reasons d)) (at_gone d same)) ∙ met))
        by false other =
            gone.now.delimiters i d here (turned.now.delimiters i d (had i d here)
            (has.delimiters d was_here
            (ap (λ (p : Place). met_in p (c.reasons d)) (sym (else_at c AckCame e state there within d other))
            ∙ ap (λ (x : Bool). met_in (place_of (happens AckCame e c) d) (if x then reason_in AckCame (place_of c e) (c.reasons e) else c.reasons d)) (sym other) ∙ met)))

    pub has_settled : HasAll names c h → HasAll names (happens AckCame e c) k
    has_settled has i holds = of (has i (sym (gone.now.objects i ∙ turned.now.objects i) ∙ holds))
      where
        of : HasEnds names c.rows.pairs c.attached c.reasons h i → HasEnds names (happens AckCame e c).rows.pairs (happens AckCame e c).attached (happens AckCame e c).reasons k i
        of was =
            subst (λ (rs : EndId → Option Reason). HasEnds names (happens AckCame e c).rows.pairs (happens AckCame e c).attached rs k i) (sym (reasons_now c AckCame e state there within))
            (subst (λ (es : List EndId). HasEnds names (happens AckCame e c).rows.pairs es (with_end e (reason_in AckCame (place_of c e) (c.reasons e)) c.reasons) k i) (sym (same_attached c AckCame e state there within))
            (record {
              ends = ends_then i was;
              named = named_then i was.named;
              writes = writes_then i was;
              delimiters = met_then i was;
              states = λ d here. states_told c AckCame e state there within names h k i was told d (subst (λ (hs : List (Held N)). has_end d hs ≡ true) (lists i) (had i d here)) here;
            }))

-- ---- the room that is left
module _ {L : Type 0} where
  sent_spare : (boxes : List (Mail (Command L))) (slot m : ℕ) (command : Command L) → 0 < (mail_at boxes slot).spare →
      (mail_at boxes m).spare ≤ (mail_at (with_mail slot (with_sent command (mail_at boxes slot)) boxes) m).spare + cond (slot == m) 1 0
  sent_spare boxes slot m command room =
      elim (cases_eq m slot) [
        | inl same ↦
            let one = ap {B = ℕ} (λ (b : Bool). cond b 1 0) (eq-eqb slot m (sym same)) in
            let now = ap (λ (n : ℕ). (mail_at (with_mail slot (with_sent command (mail_at boxes slot)) boxes) n).spare) same
            ∙ ap (λ (x : Mail (Command L)). x.spare) (get_or-set_same boxes slot (with_sent command (mail_at boxes slot)) no_mail (roomy boxes slot room)) in
            let was = ap (λ (n : ℕ). (mail_at boxes n).spare) same in
            omega (arith, one, now, was)
        | inr other ↦
            let stays = ap (λ (x : Mail (Command L)). x.spare) (get_or-set_other boxes slot m (with_sent command (mail_at boxes slot)) no_mail other) in
            omega (arith, stays)
      ]

  pub told_spare : (s mid t : State L) (slot : ℕ) (commands : EndCommands) (command : Command L) → mid.boxes ≡ s.boxes → (tells commands ≡ true → 0 < (mail_at s.boxes slot).spare) → (tells commands ≡ true → t ≡ sent_to slot command mid) →
      (tells commands ≡ false → t ≡ mid) → (m : ℕ) → (mail_at s.boxes m).spare ≤ (mail_at t.boxes m).spare + cond (tells commands && slot == m) 1 0
  told_spare s mid t slot commands command boxes room told kept m = by (tells commands) refl
    where
      by : (b : Bool) → tells commands ≡ b → (mail_at s.boxes m).spare ≤ (mail_at t.boxes m).spare + cond (tells commands && slot == m) 1 0
      by true is_told =
          let now = ap (λ (x : State L). (mail_at x.boxes m).spare) (told is_told)
          ∙ ap (λ (b : List (Mail (Command L))). (mail_at (with_mail slot (with_sent command (mail_at b slot)) b) m).spare) boxes in
          let less = sent_spare s.boxes slot m command (room is_told) in
          let which = ap {B = ℕ} (λ (b : Bool). cond (b && slot == m) 1 0) is_told in
          omega (arith, now, less, which)
      by false is_kept =
          let now = ap (λ (x : State L). (mail_at x.boxes m).spare) (kept is_kept) ∙ ap (λ (b : List (Mail (Command L))). (mail_at b m).spare) boxes in
          omega (arith, now)
