-- What publishers hear and send, and what subscribers tell, can be made.
use Rattle.std.proofs.Common.{◌≡◌, ◌∙◌, ◌+◌, ◌≤◌, inl, inr, ◌⊎◌, ℕ, zero, suc, List, [], ◌∷◌, ◌++◌, Bool, true, false, Option, Some, None, All, length, nat_eq, if◌then◌else◌, refl, sym, subst, ap, arith, length-append}
use Rattle.std.proofs.lemmas.List.Elements.{filter_map-append, All-head, All-tail}
use Rattle.zq_base.specs.Message.{Frames}
use Rattle.zq_base.specs.Ends.{PipeId}
use Rattle.spec_pattern.specs.PipeStep.{PipeStep, Commit, FullLook, Follows, same_pipe, same_side, committed_to, taken_from, committed_by, taken_by}
use Rattle.spec_pattern.specs.TurnList.{End, NoneHasMessage}
use Rattle.spec_pattern.specs.Topics.{Topic, Subscribers}
use Rattle.spec_pattern.specs.Wanted.{Wanted, difference}
use Rattle.spec_pattern.specs.Publishing.{Publisher, most_heard, stops_hearing, EndsHearing, HearsFrom, heard, many_answer, SendsToMany}
use Rattle.spec_pattern.specs.Subscribing.{Subscriber, tell_message, told_after, EndsTelling, TellsOn, TellsWhere, TellsAll, Tells}
use Rattle.spec_pattern.specs.Existence.{IsLive}
use Rattle.spec_pattern.proofs.InLemmas.{ComesBy}
use Rattle.spec_pattern.proofs.PublishLemmas.{OffersBy, put_to, full_at, Heard}
use Rattle.spec_pattern.proofs.LiveLemmas.{look_out, live_more, Made, made_none, made_one, made_two, made_as}
use Rattle.spec_pattern.proofs.MadeTurnLemmas.{comes_made}

abbrev pub HearsAlong : ℕ → Publisher → List PipeStep → Heard → Type 0
HearsAlong count p steps o = HearsFrom count p o.rounds steps o.new

-- a telling of a peer, by what is told
record Telling : Type 0 where
  changes : List (ℕ × Topic)
  told : List Topic

abbrev TellsAlong : Wanted → End → List Topic → List PipeStep → Telling → Type 0
TellsAlong wanted e told steps o = TellsOn wanted e told o.changes steps o.told

-- how many more messages a pipe may take, at most
abbrev HasLeft : (PipeId → ℕ) → List PipeStep → End → ℕ → Type 0
HasLeft c past e left = length (taken_from e past) + c e ≤ length (committed_to e past) + left

same_number : (n : ℕ) → nat_eq n n ≡ true
same_number n = grind arith

same_side_as : (a : Bool) → same_side a a ≡ true
same_side_as true = refl
same_side_as false = refl

same_end : (e : End) → same_pipe e e ≡ true
same_end e = ap (λ b. if b then same_side e.a e.a else false) (same_number e.pair.0) ∙ same_side_as e.a

-- one message more leaves room for one less
one_less : (c : PipeId → ℕ) (past : List PipeStep) (e : End) (m : Frames) (left : ℕ) → HasLeft c past e (suc left) → HasLeft c (past ++ Commit e m ∷ []) e left
one_less c past e m left has =
    rw (filter_map-append (taken_by e) past (Commit e m ∷ []), filter_map-append (committed_by e) past (Commit e m ∷ []), length-append (taken_from e past) (taken_from e (Commit e m ∷ [])), length-append (committed_to e past) (committed_to e (Commit e m ∷ [])), same_end e) (omega (arith, has))

-- hearing is over at the most messages that are heard
stops_at_most : (count : ℕ) (p : Publisher) → count + zero ≡ most_heard → stops_hearing count p ≡ true
stops_at_most count p all = ap (λ n. stops_hearing n p) (at_most count all)
  where
    at_most : (n : ℕ) → n + zero ≡ most_heard → n ≡ most_heard
    at_most n is = omega (arith, is)

no_change : (o : Option (ℕ × Topic)) (e : End) → o ≡ None → EndsTelling o e []
no_change o e is = subst (λ z. EndsTelling z e []) (sym is) refl

full_change : (o : Option (ℕ × Topic)) (change : ℕ × Topic) (e : End) → o ≡ Some change → EndsTelling o e (FullLook e ∷ [])
full_change o change e is = subst (λ z. EndsTelling z e (FullLook e ∷ [])) (sym is) refl

module _ (c : PipeId → ℕ) (w : End → Bool) where
  -- ---- hearing

  stopped : (count : ℕ) (p : Publisher) (past : List PipeStep) → stops_hearing count p ≡ true → Made c past (HearsAlong count p)
  stopped count p past stop = made_none c past (HearsAlong count p) (record { rounds = []; new = p }) (subst (λ b. EndsHearing b p [] p) (sym stop) (refl, refl))

  hears_made : (left count : ℕ) → count + left ≡ most_heard → (p : Publisher) (past : List PipeStep) → IsLive c w past → Made c past (HearsAlong count p)
  hears_made zero count all p past live = stopped count p past (stops_at_most count p all)
  hears_made (suc left) count all p past live = by (stops_hearing count p) refl (hears_made left (suc count) (omega (arith, all)))
    where
      next : stops_hearing count p ≡ false → Made c past (ComesBy p.ins) ⊎ Made c past (NoneHasMessage p.ins)
          → ((q : Publisher) (l : List PipeStep) → IsLive c w l → Made c l (HearsAlong (suc count) q)) → Made c past (HearsAlong count p)
      next on (inl r) rec =
          let q = heard r.end_.0 r.end_.1 p in
          let rest = rec q (past ++ r.steps) (live_more c w past r.steps live r.exact r.unsealing) in
          made_two c past (HearsAlong count p) (HearsAlong (suc count) q) r.steps (λ (o : Heard). record { rounds = r.end_.0 ∷ o.rounds; new = o.new }) r.exact r.unsealing rest
          (on, r.end_.1, r.steps, rest.steps, r.holds, rest.holds, refl)
      next on (inr r) rec =
          made_as c past (NoneHasMessage p.ins) (HearsAlong count p) r (record { rounds = []; new = record p { ins = r.end_ } })
          (subst (λ b. EndsHearing b p r.steps (record p { ins = r.end_ })) (sym on) (r.end_, r.holds, refl))

      by : (b : Bool) → stops_hearing count p ≡ b → ((q : Publisher) (l : List PipeStep) → IsLive c w l → Made c l (HearsAlong (suc count) q)) → Made c past (HearsAlong count p)
      by true stop rec = stopped count p past stop
      by false on rec = next on (comes_made c w p.ins past live) rec

  pub heard_made : (p : Publisher) (past : List PipeStep) → IsLive c w past → Made c past (HearsAlong 0 p)
  heard_made p past live = hears_made most_heard 0 refl p past live

  -- ---- sending to many

  offers_made : (m : Frames) (ends : List End) → All (λ e. w e ≡ true) ends → (past : List PipeStep) → IsLive c w past → Made c past (OffersBy m ends)
  offers_made m [] can past live = made_none c past (OffersBy m []) (record { put = []; full = [] }) (refl, refl, refl)
  offers_made m (e ∷ es) can past live = by (look_out c past e m live.exact (live.unsealed e (All-head (λ k. w k ≡ true) e es can))) (offers_made m es (All-tail (λ k. w k ≡ true) e es can))
    where
      by : Follows c past (Commit e m) ⊎ Follows c past (FullLook e) → ((l : List PipeStep) → IsLive c w l → Made c l (OffersBy m es)) → Made c past (OffersBy m (e ∷ es))
      by (inl now) rec =
          let rest = rec (past ++ Commit e m ∷ []) (live_more c w past (Commit e m ∷ []) live (now, tt) (λ p. refl)) in
          made_two c past (OffersBy m (e ∷ es)) (OffersBy m es) (Commit e m ∷ []) (put_to e) (now, tt) (λ p. refl) rest
          (rest.steps, rest.end_.put, rest.end_.full, rest.holds, inl (refl, refl, refl))
      by (inr now) rec =
          let rest = rec (past ++ FullLook e ∷ []) (live_more c w past (FullLook e ∷ []) live (now, tt) (λ p. refl)) in
          made_two c past (OffersBy m (e ∷ es)) (OffersBy m es) (FullLook e ∷ []) (full_at e) (now, tt) (λ p. refl) rest
          (rest.steps, rest.end_.put, rest.end_.full, rest.holds, inr (refl, refl, refl))

  pub many_made : (m : Frames) (ends : List End) → All (λ e. w e ≡ true) ends → (past : List PipeStep) → IsLive c w past → Made c past (SendsToMany m ends)
  many_made m ends can past live =
      let r = offers_made m ends can past live in
      made_as c past (OffersBy m ends) (SendsToMany m ends) r (many_answer r.end_.put r.end_.full) (record { put = r.end_.put; full = r.end_.full; offers = r.holds; answer_is = refl })

  -- ---- telling

  full_now : (wanted : Wanted) (e : End) (told : List Topic) (change : ℕ × Topic) (past : List PipeStep) → difference told wanted ≡ Some change → Follows c past (FullLook e) → Made c past (TellsAlong wanted e told)
  full_now wanted e told change past is now =
      made_one c past (TellsAlong wanted e told) (record { changes = []; told = told }) (FullLook e) (full_change (difference told wanted) change e is, refl) now (λ p. refl)

  told_all : (wanted : Wanted) (e : End) (told : List Topic) (past : List PipeStep) → difference told wanted ≡ None → Made c past (TellsAlong wanted e told)
  told_all wanted e told past is = made_none c past (TellsAlong wanted e told) (record { changes = []; told = told }) (no_change (difference told wanted) e is, refl)

  tells_on_made : (left : ℕ) (wanted : Wanted) (e : End) (told : List Topic) (past : List PipeStep) → w e ≡ true → HasLeft c past e left → IsLive c w past → Made c past (TellsAlong wanted e told)
  tells_on_made zero wanted e told past can has live = by (difference told wanted) refl
    where
      by : (o : Option (ℕ × Topic)) → difference told wanted ≡ o → Made c past (TellsAlong wanted e told)
      by None is = told_all wanted e told past is
      by (Some change) is = elim (look_out c past e (tell_message change) live.exact (live.unsealed e can)) [
        | inl now ↦ absurd (omega (arith, has, now.0))
        | inr now ↦ full_now wanted e told change past is now
      ]
  tells_on_made (suc left) wanted e told past can has live = by (difference told wanted) refl (tells_on_made left wanted e)
    where
      by : (o : Option (ℕ × Topic)) → difference told wanted ≡ o
          → ((t : List Topic) (l : List PipeStep) → w e ≡ true → HasLeft c l e left → IsLive c w l → Made c l (TellsAlong wanted e t)) → Made c past (TellsAlong wanted e told)
      by None is rec = told_all wanted e told past is
      by (Some change) is rec = elim (look_out c past e (tell_message change) live.exact (live.unsealed e can)) [
        | inl now ↦ let step = Commit e (tell_message change) in
            let rest = rec (told_after change told) (past ++ step ∷ []) can (one_less c past e (tell_message change) left has) (live_more c w past (step ∷ []) live (now, tt) (λ p. refl)) in
            made_two c past (TellsAlong wanted e told) (TellsAlong wanted e (told_after change told)) (step ∷ []) (λ (o : Telling). record { changes = change ∷ o.changes; told = o.told })
            (now, tt) (λ p. refl) rest (is, rest.steps, rest.holds, refl)
        | inr now ↦ full_now wanted e told change past is now
      ]

  tells_where_made : (wanted : Wanted) (e : End) (told : List Topic) (past : List PipeStep) → IsLive c w past → Made c past (TellsWhere (w e) wanted e told)
  tells_where_made wanted e told past live = by (w e) refl
    where
      by : (b : Bool) → w e ≡ b → Made c past (TellsWhere b wanted e told)
      by true can =
          let r = tells_on_made (length (taken_from e past) + c e) wanted e told past can (omega arith) live in
          made_as c past (TellsAlong wanted e told) (TellsWhere true wanted e told) r r.end_.told (r.end_.changes, r.holds)
      by false can = made_none c past (TellsWhere false wanted e told) told (refl, refl)

  tells_all_made : (wanted : Wanted) (fs : Subscribers End) (past : List PipeStep) → IsLive c w past → Made c past (TellsAll w wanted fs)
  tells_all_made wanted [] past live = made_none c past (TellsAll w wanted []) [] (refl, refl)
  tells_all_made wanted (f ∷ fs) past live =
      let r = tells_where_made wanted f.0 f.1 past live in
      let rest = tells_all_made wanted fs (past ++ r.steps) (live_more c w past r.steps live r.exact r.unsealing) in
      made_two c past (TellsAll w wanted (f ∷ fs)) (TellsAll w wanted fs) r.steps (λ (o : Subscribers End). (f.0, r.end_) ∷ o) r.exact r.unsealing rest
      (r.end_, rest.end_, r.steps, rest.steps, r.holds, rest.holds, refl, refl)

  pub tells_made : (s : Subscriber) (past : List PipeStep) → IsLive c w past → Made c past (Tells w s)
  tells_made s past live =
      let r = tells_all_made s.wanted s.followers past live in
      made_as c past (TellsAll w s.wanted s.followers) (Tells w s) r (record s { followers = r.end_ }) (record { followers = r.end_; tells = r.holds; new_is = refl })
