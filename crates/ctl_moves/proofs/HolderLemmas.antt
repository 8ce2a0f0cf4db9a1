-- What a holder has, where nothing happens to its ends.
use Rattle.std.specs.Prelude.{◌≡◌, ◌<◌, ◌≤◌, ◌⊎◌, ◌==◌, ◌∷◌, [], ℕ, Bool, true, false, cond, List, Option, All, map, filter, length, refl, None}
use Rattle.std.proofs.Common.{arith, sym, ap, ◌∙◌, subst, inl, inr}
use Rattle.std.proofs.lemmas.Bool.{cases_eq, eqb-true, cases_lt}
use Rattle.std.proofs.lemmas.List.{get_or_past}
use Rattle.std.proofs.lemmas.List.Sums.{get_or-le-sum_by}
use Rattle.std.proofs.lemmas.List.Elements.{All-weaker}
use Rattle.zq_base.specs.declared.ids.EndId.{EndId}
use Rattle.mailbox.specs.Mail.{Mail}
use Rattle.spec_control.specs.declared.end.Reason.{Reason}
use Rattle.spec_control.specs.declared.letter.Word.{Word}
use Rattle.spec_control.specs.declared.letter.Word.TheVariants.{Own, Plug, TermReq, Term, TermAck, PipeBind, PipeTerm, PipeTermAck, Stop, Reap}
use Rattle.spec_control.specs.Place.{At, is_here}
use Rattle.spec_control.specs.Rows.{Rows, PairRow, no_pair, obj, pair, end_place, end_owner, may_end, owed, behind, living, of_ends, end_waits}
use Rattle.spec_control.specs.Stage.{is_ending}
use Rattle.spec_control.specs.Control.{Control}
use Rattle.spec_control.specs.Held.{Held}
use Rattle.control_laws.proofs.ListLemmas.{never, left, right}
use Rattle.desk.specs.declared.load.Load.{Load}
use Rattle.desk.specs.Holding.{Holding, IsTold, Stays, KeepsTurns, has_end}
use Rattle.desk.specs.Lent.{place_by, owner_by, HasBothNames, HasEnds, HasAll}
use Rattle.desk.specs.Load.{Carries, brings_ends}
use Rattle.ctl_state.specs.declared.command.Command.{Command}
use Rattle.ctl_state.specs.Boxes.{tells_object, IsBareTold, PutsBare}
use Rattle.ctl_moves.specs.Turning.{IsLoaded, PutsLoaded}
use Rattle.control_laws.proofs.StayLemmas.{SameEnds}

module _ {N : Type 0} (names : EndId → Option N) where
  pub has_same : (c d : Control) (h : Holding N) → SameEnds c d → HasAll names c h → HasAll names d h
  has_same c d h same has i holds =
      subst (λ (ps : List PairRow). HasEnds names ps d.attached d.reasons h i) (sym same.pairs)
      (subst (λ (es : List EndId). HasEnds names c.rows.pairs es d.reasons h i) (sym same.attached)
      (subst (λ (rs : EndId → Option Reason). HasEnds names c.rows.pairs c.attached rs h i) (sym same.reasons) (has i holds)))

  ends_told : (c : Control) (h k : Holding N) (i : ℕ) → k.ends i ≡ h.ends i → ((d : EndId) → k.writes d ≡ h.writes d) → ((d : EndId) → has_end d (k.ends i) ≡ true → h.at_delimiter d ≡ true → k.at_delimiter d ≡ true) → ((d : EndId) → has_end d (k.ends i) ≡ true → k.state d ≡ h.state d) →
      HasEnds names c.rows.pairs c.attached c.reasons h i → HasEnds names c.rows.pairs c.attached c.reasons k i
  ends_told c h k i same writes at states has = record {
    ends = ap (λ (hs : List (Held N)). map (λ x. x.end) hs) same ∙ has.ends;
    named = subst (λ (hs : List (Held N)). All (HasBothNames names) hs) (sym same) has.named;
    writes = λ d here. writes d ∙ has.writes d (was d here);
    delimiters = λ d here met. at d here (has.delimiters d (was d here) met);
    states = λ d here. has.states d (was d here) ∙ ap At (sym (states d here));
  }
    where
      was : (d : EndId) → has_end d (k.ends i) ≡ true → has_end d (h.ends i) ≡ true
      was d here = subst (λ (hs : List (Held N)). has_end d hs ≡ true) same here

  -- the holder of an object was told something of it
  pub has_told : (c : Control) (h k : Holding N) (o : ℕ) → (h.holds o ≡ true) → IsTold o h k → HasAll names c h → HasAll names c k
  has_told c h k o lent told has i holds = ends_told c h k i (told.ends i) told.writes (λ d here at. told.delimiters d at) (told.turns.states i) (has i (held (cases_eq i o)))
    where
      held : (i ≡ o) ⊎ (i ≡ o → ⊥) → h.holds i ≡ true
      held (inl same) = ap h.holds same ∙ lent
      held (inr other) = sym (told.objects i other) ∙ holds

  pub has_stayed : (c : Control) (h k : Holding N) (o : ℕ) → Stays o h k → KeepsTurns h k → HasAll names c h → HasAll names c k
  has_stayed c h k o stays keeps has i holds = ends_told c h k i (lists (cases_eq i o)) stays.writers (stays.now.delimiters i) (keeps.states i) (has i (sym (stays.now.objects i) ∙ holds))
    where
      lists : (i ≡ o) ⊎ (i ≡ o → ⊥) → k.ends i ≡ h.ends i
      lists (inl same) = ap k.ends same ∙ stays.now.ends ∙ ap h.ends (sym same)
      lists (inr other) = stays.now.others i other

-- ---- an object that can end has no end
waits_not : (b : Bool) → ◌≤◌ (cond b 1 0) 0 → b ≡ false
waits_not b h = grind arith

none_here : (s : Rows) (o : ℕ) → may_end s o ≡ true → (d : EndId) → (owner_by s.pairs d == o) ≡ true → is_here (place_by s.pairs d) ≡ false
none_here s o may_it d own = by (cases_lt d.pair.0 (length s.pairs))
  where
    zero_owed : owed s o ≡ 0
    zero_owed = eqb-true (owed s o) 0 (left _ (living s o == 0) (right (behind s o == 0) _ (right (is_ending (obj s o).stage) _ may_it)))

    side : (p : PairRow) (a : Bool) → (end_owner p a == o) ≡ true → of_ends end_waits o p ≤ 0 → is_here (end_place p a) ≡ false
    side p true h n = waits_not (is_here p.a) (let on = ap {B = ℕ} (λ (b : Bool). cond b (end_waits p.a) 0) h in omega (arith, on, n))
    side p false h n = waits_not (is_here p.b) (let on = ap {B = ℕ} (λ (b : Bool). cond b (end_waits p.b) 0) h in omega (arith, on, n))

    gone : (a : Bool) → is_here (end_place no_pair a) ≡ false
    gone true = refl
    gone false = refl

    by : (d.pair.0 < length s.pairs) ⊎ (length s.pairs ≤ d.pair.0) → is_here (place_by s.pairs d) ≡ false
    by (inl within) =
        let part = get_or-le-sum_by (of_ends end_waits o) s.pairs d.pair.0 no_pair within in
        let none = zero_owed in
        side (pair s d.pair.0) d.a own (omega (arith, part, none))
    by (inr past) = ap (λ (p : PairRow). is_here (end_place p d.a)) (get_or_past s.pairs d.pair.0 no_pair past) ∙ gone d.a

none_pass : (p q : EndId → Bool) (es : List EndId) → ((d : EndId) → p d ≡ true → q d ≡ false) → filter q (filter p es) ≡ []
none_pass p q [] none = refl
none_pass p q (d ∷ es) none = by (p d) refl (none_pass p q es none)
  where
    drop_it : (b : Bool) → b ≡ false → filter q (filter p es) ≡ [] → cond b (d ∷ filter q (filter p es)) (filter q (filter p es)) ≡ []
    drop_it true f rest = absurd (never (sym f))
    drop_it false f rest = rest

    by : (b : Bool) → p d ≡ b → filter q (filter p es) ≡ [] → filter q (cond b (d ∷ filter p es) (filter p es)) ≡ []
    by true h rest = drop_it (q d) (none d h) rest
    by false h rest = rest

map_none : {X Y : Type 0} (f : X → Y) (xs : List X) → map f xs ≡ [] → xs ≡ []
map_none f [] h = refl
map_none f (x ∷ xs) h = absurd (some h)
  where
    some : f x ∷ map f xs ≡ [] → ⊥
    some e = grind arith

pub ended_has_none : {N : Type 0} (names : EndId → Option N) (s : Rows) (attached : List EndId) (reasons : EndId → Option Reason) (h : Holding N) (o : ℕ) → may_end s o ≡ true → HasEnds names s.pairs attached reasons h o → h.ends o ≡ []
ended_has_none names s attached reasons h o may_it has =
    map_none (λ x. x.end) (h.ends o) (has.ends ∙ none_pass (λ d. owner_by s.pairs d == o) (λ d. is_here (place_by s.pairs d)) attached (none_here s o may_it))

-- ---- commands that tell objects carry nothing
module _ {N O I : Type 0} (out_name : O → N) (in_name : I → N) (names : EndId → Option N) where
  -- an object is told with no load
  pub told_carries : (word : Word) (load : Option (Load N O I)) → load ≡ None → tells_object word ≡ true → Carries out_name in_name names word load
  told_carries (Own child) load none told = none
  told_carries (Plug end) load none told = absurd (never told)
  told_carries (TermReq child) load none told = none
  told_carries Term load none told = none
  told_carries (TermAck child) load none told = none
  told_carries (PipeBind e peer) load none told = absurd (never told)
  told_carries (PipeTerm e) load none told = none
  told_carries (PipeTermAck e) load none told = absurd (never told)
  told_carries Stop load none told = none
  told_carries (Reap socket) load none told = absurd (never told)

  told_loaded : (command : Command (Load N O I)) → IsBareTold command → IsLoaded out_name in_name names command
  told_loaded command told = record { carries = told_carries command.letter.word command.load told.empty told.word; no_ends = no_reap command.letter.word told.word }
    where
      no_reap : (word : Word) → tells_object word ≡ true → brings_ends word ≡ false
      no_reap (Own child) h = refl
      no_reap (Plug end) h = refl
      no_reap (TermReq child) h = refl
      no_reap Term h = refl
      no_reap (TermAck child) h = refl
      no_reap (PipeBind e peer) h = refl
      no_reap (PipeTerm e) h = refl
      no_reap (PipeTermAck e) h = refl
      no_reap Stop h = refl
      no_reap (Reap socket) h = absurd (never h)

  pub bare_loaded : (old new : List (Mail (Command (Load N O I)))) → PutsBare old new → PutsLoaded out_name in_name names old new
  bare_loaded old new puts = record {
    grows = λ k. (let g = puts.grows k in record {
      more = g.more;
      commands = g.commands;
      loaded = All-weaker IsBareTold (λ (x : Command (Load N O I)). IsLoaded out_name in_name names x) told_loaded g.more g.bare;
      spare = g.spare;
    });
    many = puts.many;
  }
