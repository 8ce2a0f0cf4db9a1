-- A message can be sent by turn, or is refused, and one comes by turn, or none.
use Rattle.std.proofs.Common.{◌≡◌, ◌∙◌, inl, inr, ◌⊎◌, ℕ, List, [], ◌∷◌, ◌++◌, Bool, true, false, Option, Some, None, cond, map, refl, sym, subst, ap}
use Rattle.std.proofs.lemmas.Option.{same_Some, none-some}
use Rattle.std.specs.Prelude.{filter}
use Rattle.std.specs.Option.{option_map}
use Rattle.zq_base.specs.Message.{Frames}
use Rattle.zq_base.specs.Ends.{PipeId}
use Rattle.spec_pattern.specs.PipeStep.{PipeStep, Commit, FullLook, Take, read_through, Follows}
use Rattle.spec_pattern.specs.TurnList.{End, full_at, GivesNone, EachGivesNone, GoesOut, NoneHasRoom, ComesIn, NoneHasMessage}
use Rattle.spec_pattern.specs.Existence.{IsLive}
use Rattle.spec_pattern.proofs.OutLemmas.{Place, behind, turns_from, GoesAt, GoesAlong}
use Rattle.spec_pattern.proofs.InLemmas.{Found, found_behind, found_at, ComesAlong, ComesBy}
use Rattle.spec_pattern.proofs.LiveLemmas.{look_out, look_in, SealNone, live_more, Made, made_none, made_one, made_two, made_as}

-- ---- what a look along says

-- the end of this place is the first that can be written and has room
pub record OutAt (w : End → Bool) (m : Frames) (turns : List End) (steps : List PipeStep) (p : Place) : Type 0 where
  pub turns_are : turns ≡ p.before ++ p.peer ∷ p.after
  pub open_is : w p.peer ≡ true
  pub steps_are : steps ≡ map full_at (filter w p.before) ++ Commit p.peer m ∷ []

out_behind : (w : End → Bool) (m : Frames) (t : End) (ts : List End) (steps whole : List PipeStep) (q : Place) → OutAt w m ts steps q
    → whole ≡ map full_at (filter w (t ∷ q.before)) ++ Commit q.peer m ∷ [] → OutAt w m (t ∷ ts) whole (behind t q)
out_behind w m t ts steps whole q o is = record { turns_are = ap (λ l. t ∷ l) o.turns_are; open_is = o.open_is; steps_are = is }

out_at : (w : End → Bool) (m : Frames) (ts : List End) (steps : List PipeStep) (p : Place) → GoesAlong w m ts steps (Some p) → OutAt w m ts steps p
out_at w m [] steps p g = absurd (none-some p (sym g.1))
out_at w m (t ∷ ts) steps p g = by (w t) refl (out_at w m ts) g
  where
    filtered : (b : Bool) → w t ≡ b → (q : Place) → map full_at (filter w (t ∷ q.before)) ++ Commit q.peer m ∷ [] ≡ map full_at (cond b (t ∷ filter w q.before) (filter w q.before)) ++ Commit q.peer m ∷ []
    filtered b e q = ap (λ x. map full_at (cond x (t ∷ filter w q.before) (filter w q.before)) ++ Commit q.peer m ∷ []) e

    skipped : w t ≡ false → (o : Option Place) → (rec : (s : List PipeStep) (q : Place) → GoesAlong w m ts s (Some q) → OutAt w m ts s q)
        → GoesAlong w m ts steps o → Some p ≡ option_map (behind t) o → OutAt w m (t ∷ ts) steps p
    skipped e None rec on is = absurd (none-some p (sym is))
    skipped e (Some q) rec on is =
        let o = rec steps q on in
        subst (OutAt w m (t ∷ ts) steps) (sym (same_Some p (behind t q) is)) (out_behind w m t ts steps steps q o (o.steps_are ∙ sym (filtered false e q)))

    full : w t ≡ true → (o : Option Place) (rest : List PipeStep) → (rec : (s : List PipeStep) (q : Place) → GoesAlong w m ts s (Some q) → OutAt w m ts s q)
        → GoesAlong w m ts rest o → steps ≡ FullLook t ∷ rest → Some p ≡ option_map (behind t) o → OutAt w m (t ∷ ts) steps p
    full e None rest rec on whole is = absurd (none-some p (sym is))
    full e (Some q) rest rec on whole is =
        let o = rec rest q on in
        subst (OutAt w m (t ∷ ts) steps) (sym (same_Some p (behind t q) is))
        (out_behind w m t ts rest steps q o (whole ∙ ap (λ l. FullLook t ∷ l) o.steps_are ∙ sym (filtered true e q)))

    by : (b : Bool) → w t ≡ b → (rec : (s : List PipeStep) (q : Place) → GoesAlong w m ts s (Some q) → OutAt w m ts s q) → GoesAt b m t ts (GoesAlong w m ts) steps (Some p) → OutAt w m (t ∷ ts) steps p
    by false e rec (o, on, is) = skipped e o rec on is
    by true e rec (inl (whole, is)) =
        subst (OutAt w m (t ∷ ts) steps) (sym (same_Some p (record { before = []; peer = t; after = ts }) is)) (record { turns_are = refl; open_is = e; steps_are = whole })
    by true e rec (inr (rest, o, on, whole, is)) = full e o rest rec on whole is

nothing : (t : End) (o : Option Place) → None ≡ option_map (behind t) o → o ≡ None
nothing t None e = refl
nothing t (Some q) e = absurd (none-some (behind t q) e)

room_none : (w : End → Bool) (m : Frames) (ts : List End) (steps : List PipeStep) → GoesAlong w m ts steps None → steps ≡ map full_at (filter w ts)
room_none w m [] steps g = g.0
room_none w m (t ∷ ts) steps g = by (w t) (room_none w m ts) g
  where
    by : (b : Bool) → ((s : List PipeStep) → GoesAlong w m ts s None → s ≡ map full_at (filter w ts)) → GoesAt b m t ts (GoesAlong w m ts) steps None
        → steps ≡ map full_at (cond b (t ∷ filter w ts) (filter w ts))
    by false rec (o, on, is) = rec steps (subst (GoesAlong w m ts steps) (nothing t o is) on)
    by true rec (inl (whole, is)) = absurd (none-some (record { before = []; peer = t; after = ts }) is)
    by true rec (inr (rest, o, on, whole, is)) = whole ∙ ap (λ l. FullLook t ∷ l) (rec rest (subst (GoesAlong w m ts rest) (nothing t o is) on))

-- the end of this place is the first that has a message
pub record InAt (turns : List End) (steps : List PipeStep) (f : Found) : Type 0 where
  pub looks : List PipeStep
  pub turns_are : turns ≡ f.place.before ++ f.place.peer ∷ f.place.after
  pub looks_are : EachGivesNone f.place.before looks
  pub steps_are : steps ≡ looks ++ Take (read_through f.place.peer) f.message ∷ []

in_at : (ts : List End) (steps : List PipeStep) (f : Found) → ComesAlong ts steps (Some f) → InAt ts steps f
in_at [] steps f g = absurd (none-some f (sym g.1))
in_at (t ∷ ts) steps f (inl (m, whole, is)) =
    subst (InAt (t ∷ ts) steps) (sym (same_Some f (found_at [] t ts m) is)) (record { looks = []; turns_are = refl; looks_are = refl; steps_are = whole })
in_at (t ∷ ts) steps f (inr (look, rest, None, here, on, whole, is)) = absurd (none-some f (sym is))
in_at (t ∷ ts) steps f (inr (look, rest, Some g, here, on, whole, is)) =
    let o = in_at ts rest g on in
    subst (InAt (t ∷ ts) steps) (sym (same_Some f (found_behind t g) is)) (record {
      looks = look ∷ o.looks;
      turns_are = ap (λ l. t ∷ l) o.turns_are;
      looks_are = (look, o.looks, refl, here, o.looks_are);
      steps_are = whole ∙ ap (λ l. look ∷ l) o.steps_are;
    })

message_none : (ts : List End) (steps : List PipeStep) → ComesAlong ts steps None → EachGivesNone ts steps
message_none [] steps g = g.0
message_none (t ∷ ts) steps (inl (m, whole, is)) = absurd (none-some (found_at [] t ts m) is)
message_none (t ∷ ts) steps (inr (look, rest, None, here, on, whole, is)) = (look, rest, whole, here, message_none ts rest on)
message_none (t ∷ ts) steps (inr (look, rest, Some g, here, on, whole, is)) = absurd (none-some (found_behind t g) is)

-- ---- a look along can be made

no_seal_full : (t : End) → SealNone (FullLook t ∷ [])
no_seal_full t p = refl

no_seal_look : (t : End) (look : PipeStep) → GivesNone t look → SealNone (look ∷ [])
no_seal_look t look (inl is) = subst (λ l. SealNone (l ∷ [])) (sym is) (λ p. refl)
no_seal_look t look (inr is) = subst (λ l. SealNone (l ∷ [])) (sym is) (λ p. refl)

module _ (c : PipeId → ℕ) (w : End → Bool) where
  along_made : (m : Frames) (ts : List End) (past : List PipeStep) → IsLive c w past → Made c past (GoesAlong w m ts)
  along_made m [] past live = made_none c past (GoesAlong w m []) None (refl, refl)
  along_made m (t ∷ ts) past live = by (w t) refl (along_made m ts)
    where
      by : (b : Bool) → w t ≡ b → ((p : List PipeStep) → IsLive c w p → Made c p (GoesAlong w m ts)) → Made c past (GoesAlong w m (t ∷ ts))
      by false e rec =
          let rest = rec past live in
          made_as c past (GoesAlong w m ts) (GoesAlong w m (t ∷ ts)) rest (option_map (behind t) rest.end_)
          (subst (λ x. GoesAt x m t ts (GoesAlong w m ts) rest.steps (option_map (behind t) rest.end_)) (sym e) (rest.end_, rest.holds, refl))
      by true e rec = elim (look_out c past t m live.exact (live.unsealed t e)) [
        | inl now ↦ made_one c past (GoesAlong w m (t ∷ ts)) (Some (record { before = []; peer = t; after = ts })) (Commit t m)
            (subst (λ x. GoesAt x m t ts (GoesAlong w m ts) (Commit t m ∷ []) (Some (record { before = []; peer = t; after = ts }))) (sym e) (inl (refl, refl))) now (λ p. refl)
        | inr now ↦ let rest = rec (past ++ FullLook t ∷ []) (live_more c w past (FullLook t ∷ []) live (now, tt) (no_seal_full t)) in
            made_two c past (GoesAlong w m (t ∷ ts)) (GoesAlong w m ts) (FullLook t ∷ []) (option_map (behind t)) (now, tt) (no_seal_full t) rest
            (subst (λ x. GoesAt x m t ts (GoesAlong w m ts) (FullLook t ∷ rest.steps) (option_map (behind t) rest.end_)) (sym e) (inr (rest.steps, rest.end_, rest.holds, refl, refl)))
      ]

  comes_along : (ts : List End) (past : List PipeStep) → IsLive c w past → Made c past (ComesAlong ts)
  comes_along [] past live = made_none c past (ComesAlong []) None (refl, refl)
  comes_along (t ∷ ts) past live = by (look_in c past t live.exact) (comes_along ts)
    where
      by : ((m : Frames) × Follows c past (Take (read_through t) m)) ⊎ ((look : PipeStep) × GivesNone t look × Follows c past look)
          → ((p : List PipeStep) → IsLive c w p → Made c p (ComesAlong ts)) → Made c past (ComesAlong (t ∷ ts))
      by (inl (m, now)) rec = made_one c past (ComesAlong (t ∷ ts)) (Some (found_at [] t ts m)) (Take (read_through t) m) (inl (m, refl, refl)) now (λ p. refl)
      by (inr (look, here, now)) rec =
          let none = no_seal_look t look here in
          let rest = rec (past ++ look ∷ []) (live_more c w past (look ∷ []) live (now, tt) none) in
          made_two c past (ComesAlong (t ∷ ts)) (ComesAlong ts) (look ∷ []) (option_map (found_behind t)) (now, tt) none rest
          (inr (look, rest.steps, rest.end_, here, rest.holds, refl, refl))

  -- a message goes to one end, or none has room
  pub out_made : (m : Frames) (turns : List End) (past : List PipeStep) → IsLive c w past
      → Made c past (OutAt w m turns) ⊎ Made c past (NoneHasRoom w turns)
  out_made m turns past live = by (along_made m turns past live)
    where
      at : (r : Made c past (GoesAlong w m turns)) (o : Option Place) → r.end_ ≡ o → Made c past (OutAt w m turns) ⊎ Made c past (NoneHasRoom w turns)
      at r (Some p) is = inl (made_as c past (GoesAlong w m turns) (OutAt w m turns) r p (out_at w m turns r.steps p (subst (GoesAlong w m turns r.steps) is r.holds)))
      at r None is = inr (made_as c past (GoesAlong w m turns) (NoneHasRoom w turns) r turns
          (record { steps_are = room_none w m turns r.steps (subst (GoesAlong w m turns r.steps) is r.holds); new_is = refl }))

      by : Made c past (GoesAlong w m turns) → Made c past (OutAt w m turns) ⊎ Made c past (NoneHasRoom w turns)
      by r = at r r.end_ refl

  -- a message comes from one end, or none has any
  pub in_made : (turns : List End) (past : List PipeStep) → IsLive c w past → Made c past (InAt turns) ⊎ Made c past (NoneHasMessage turns)
  in_made turns past live = by (comes_along turns past live)
    where
      at : (r : Made c past (ComesAlong turns)) (o : Option Found) → r.end_ ≡ o → Made c past (InAt turns) ⊎ Made c past (NoneHasMessage turns)
      at r (Some f) is = inl (made_as c past (ComesAlong turns) (InAt turns) r f (in_at turns r.steps f (subst (ComesAlong turns r.steps) is r.holds)))
      at r None is = inr (made_as c past (ComesAlong turns) (NoneHasMessage turns) r turns
          (record { looks_are = message_none turns r.steps (subst (ComesAlong turns r.steps) is r.holds); new_is = refl }))

      by : Made c past (ComesAlong turns) → Made c past (InAt turns) ⊎ Made c past (NoneHasMessage turns)
      by r = at r r.end_ refl

-- what was found, as the definitions say it
abbrev pub goes_out : (w : End → Bool) (m : Frames) (turns : List End) (steps : List PipeStep) (p : Place) → OutAt w m turns steps p → GoesOut w m turns steps p.peer.pair (turns_from p)
goes_out w m turns steps p o = record {
  before = p.before;
  peer = p.peer;
  after = p.after;
  turns_are = o.turns_are;
  open_is = o.open_is;
  steps_are = o.steps_are;
  to_is = refl;
  new_is = refl;
}

abbrev pub comes_in : (turns : List End) (steps : List PipeStep) (f : Found) → InAt turns steps f → ComesIn turns steps f.message f.place.peer.pair (turns_from f.place)
comes_in turns steps f o = record {
  before = f.place.before;
  peer = f.place.peer;
  after = f.place.after;
  looks = o.looks;
  turns_are = o.turns_are;
  looks_are = o.looks_are;
  steps_are = o.steps_are;
  from_is = refl;
  new_is = refl;
}

pub comes_made : (c : PipeId → ℕ) (w : End → Bool) (turns : List End) (past : List PipeStep) → IsLive c w past → Made c past (ComesBy turns) ⊎ Made c past (NoneHasMessage turns)
comes_made c w turns past live = elim (in_made c w turns past live) [
  | inl r ↦ inl (made_as c past (InAt turns) (ComesBy turns) r (record { peer = r.end_.place.peer; message = r.end_.message }, turns_from r.end_.place)
      (record { by_turn = comes_in turns r.steps r.end_ r.holds; peer_is = refl }))
  | inr r ↦ inr r
]
