-- The partner of a REQ and of a REP stays one of their peers.
use Rattle.std.specs.Prelude.{Contains, Ok, Err, Result, OnOk, OnErr, ◌⊎◌}
use Rattle.std.proofs.Common.{◌≡◌, ℕ, zero, suc, Bool, true, false, List, [], ◌∷◌, ◌++◌, cond, eqb, not, filter, refl, sym, ap, subst, ◌∙◌, arith, inl, inr, IsPermutation}
use Rattle.std.proofs.lemmas.List.Elements.{All-contains, All-contains_itself, All-filter, filter_passes, Contains-append_left, Contains-append_right, Contains-append_cases, Contains-push, Contains-push_cases}
use Rattle.std.proofs.lemmas.List.Sorted.{Contains-permutation, IsPermutation-sym}
use Rattle.zq_base.specs.Message.{Frames}
use Rattle.msg_pipe.specs.Turns.{without_place}
use Rattle.msg_pipe.specs.BothTurns.{Both, with_turns, without_turns}
use Rattle.fair_queue.proofs.DroppingLemmas.{in_the_middle}
use Rattle.req_rep.specs.Partners.{IsAt, IsReq, IsRep, is_nobody, without_partner}
use Rattle.req_rep.specs.declared.partner.Partner.{Partner}
use Rattle.req_rep.specs.declared.partner.Partner.TheVariants.{Nobody, At, Gone}

the_one : (x y : ℕ) → Contains (y ∷ []) x → y ≡ x
the_one x y (zero, within, is) = is
the_one x y (suc k, within, is) = absurd (omega (arith, within))

-- what is in a list and passes the test is among those that pass
Contains-filter : (p : ℕ → Bool) (xs : List ℕ) (x : ℕ) → Contains xs x → p x ≡ true → Contains (filter p xs) x
Contains-filter p [] x (k, within, is) passes = absurd (omega (arith, within))
Contains-filter p (y ∷ ys) x h passes = by (λ there. Contains-filter p ys x there passes) (Contains-append_cases (y ∷ []) ys x h)
  where
    skip : (b : Bool) → Contains (filter p ys) x → Contains (cond b (y ∷ filter p ys) (filter p ys)) x
    skip true there = Contains-append_right (y ∷ []) (filter p ys) x there
    skip false there = there

    first : (b : Bool) → b ≡ true → y ≡ x → Contains (cond b (y ∷ filter p ys) (filter p ys)) x
    first true e same = subst (λ z. Contains (y ∷ filter p ys) z) same (0, omega arith, refl)
    first false e same = absurd (cc e)

    by : (Contains ys x → Contains (filter p ys) x) → Contains (y ∷ []) x ⊎ Contains ys x → Contains (cond (p y) (y ∷ filter p ys) (filter p ys)) x
    by rest (inl here) = first (p y) (ap p (the_one x y here) ∙ passes) (the_one x y here)
    by rest (inr there) = skip (p y) (rest there)

-- what follows for each place follows for the partner's
IsAt-as : (P Q : ℕ → Type 0) (p : Partner) → ((k : ℕ) → P k → Q k) → IsAt P p → IsAt Q p
IsAt-as P Q Nobody each h = tt
IsAt-as P Q (At place) each h = each place h
IsAt-as P Q Gone each h = tt

peer_stays : (place : ℕ) (ins : List ℕ) (p : Partner) → IsAt (Contains ins) p → IsAt (Contains (without_place place ins)) (without_partner place p)
peer_stays place ins Nobody h = tt
peer_stays place ins Gone h = tt
peer_stays place ins (At other) h = by (eqb other place) refl
  where
    by : (b : Bool) → eqb other place ≡ b → IsAt (Contains (without_place place ins)) (cond b Gone (At other))
    by true e = tt
    by false e = Contains-filter (λ k. not (eqb k place)) ins other h (ap not e)

still_nobody : (place : ℕ) (p : Partner) → is_nobody (without_partner place p) ≡ true → is_nobody p ≡ true
still_nobody place Nobody e = refl
still_nobody place Gone e = e
still_nobody place (At other) e = by (eqb other place) e
  where
    by : (b : Bool) → is_nobody (cond b Gone (At other)) ≡ true → false ≡ true
    by true f = f
    by false f = f

-- ---- REP

pub IsRep-detached : (place : ℕ) (ins ins' : List ℕ) (owed owed' : Partner) (envelope : Frames) → ins' ≡ without_place place ins → owed' ≡ without_partner place owed
    → IsRep ins owed envelope → IsRep ins' owed' envelope
IsRep-detached place ins ins' owed owed' envelope e f h =
    subst (λ (i : List ℕ). IsRep i owed' envelope) (sym e) (subst (λ (o : Partner). IsRep (without_place place ins) o envelope) (sym f) (record {
      peer = peer_stays place ins owed h.peer;
      none = λ nobody. h.none (still_nobody place owed nobody);
    }))

pub IsRep-owing : (ins ins' : List ℕ) (place : ℕ) (envelope : Frames) → IsPermutation ins ins' → Contains ins place → IsRep ins' (At place) envelope
IsRep-owing ins ins' place envelope same within = record {
  peer = Contains-permutation ins ins' place same within;
  none = λ nobody. absurd (cc nobody);
}

-- ---- REQ

attached : (place : ℕ) (outs ins : List ℕ) (asked : Partner) → IsReq outs ins asked → IsReq (outs ++ place ∷ []) (ins ++ place ∷ []) asked
attached place outs ins asked h = record {
  both = λ k there. by k (Contains-push_cases outs place k there);
  peer = IsAt-as (Contains ins) (Contains (ins ++ place ∷ [])) asked (λ k there. Contains-append_left ins (place ∷ []) k there) h.peer;
}
  where
    by : (k : ℕ) → Contains outs k ⊎ (place ≡ k) → Contains (ins ++ place ∷ []) k
    by k (inl there) = Contains-append_left ins (place ∷ []) k (h.both k there)
    by k (inr same) = subst (λ z. Contains (ins ++ place ∷ []) z) same (Contains-push ins place)

pub IsReq-added : {X Y : Type 0} (result : Result X Y) (place : ℕ) (old new : Both) (asked : Partner) → OnOk result (new ≡ with_turns place old) → OnErr result (new ≡ old)
    → IsReq old.outs old.ins asked → IsReq new.outs new.ins asked
IsReq-added (Ok x) place old new asked ok err h = subst (λ (t : Both). IsReq t.outs t.ins asked) (sym ok) (attached place old.outs old.ins asked h)
IsReq-added (Err x) place old new asked ok err h = subst (λ (t : Both). IsReq t.outs t.ins asked) (sym err) h

pub IsReq-detached : (place : ℕ) (old new : Both) (asked asked' : Partner) → new ≡ without_turns place old → asked' ≡ without_partner place asked
    → IsReq old.outs old.ins asked → IsReq new.outs new.ins asked'
IsReq-detached place old new asked asked' e f h =
    let p = λ (k : ℕ). not (eqb k place) in
    subst (λ (t : Both). IsReq t.outs t.ins asked') (sym e) (subst (λ (a : Partner). IsReq (without_place place old.outs) (without_place place old.ins) a) (sym f) (record {
      both = λ k there.
          let from_ = All-contains (Contains old.outs) (filter p old.outs) k (All-filter p (Contains old.outs) old.outs (All-contains_itself old.outs)) there in
          Contains-filter p old.ins k (h.both k from_) (All-contains (λ x. p x ≡ true) (filter p old.outs) k (filter_passes p old.outs) there);
      peer = peer_stays place old.ins asked h.peer;
    }))

-- the request went to the peer between these
pub IsReq-asked : (outs outs' ins before after : List ℕ) (asked : Partner) (place : ℕ) → IsPermutation outs outs' → outs ≡ before ++ place ∷ after
    → IsReq outs ins asked → IsReq outs' ins (At place)
IsReq-asked outs outs' ins before after asked place same are h = record {
  both = λ k there. h.both k (Contains-permutation outs' outs k (IsPermutation-sym outs outs' same) there);
  peer = h.both place (in_the_middle before after outs place are);
}

-- the reply came
pub IsReq-free : (outs ins ins' : List ℕ) (asked : Partner) → IsPermutation ins ins' → IsReq outs ins asked → IsReq outs ins' Nobody
IsReq-free outs ins ins' asked same h = record {
  both = λ k there. Contains-permutation ins ins' k same (h.both k there);
  peer = tt;
}

-- no reply came
pub IsReq-turned : (outs ins ins' : List ℕ) (asked : Partner) → IsPermutation ins ins' → IsReq outs ins asked → IsReq outs ins' asked
IsReq-turned outs ins ins' asked same h = record {
  both = λ k there. Contains-permutation ins ins' k same (h.both k there);
  peer = IsAt-as (Contains ins) (Contains ins') asked (λ k there. Contains-permutation ins ins' k same there) h.peer;
}
