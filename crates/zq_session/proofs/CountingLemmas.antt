-- What the parts of a turn do to a tally.
use Rattle.std.proofs.Common.{◌≡◌, ℕ, Bool, true, false, List, [], ◌∷◌, ◌++◌, length, Option, Some, None, refl, sym, subst, ◌∙◌, inl, inr}
use Rattle.zq_base.specs.Message.{Frames}
use Rattle.zq_base.specs.Ends.{PipeId}
use Rattle.zq_base.specs.declared.options.EngineOpts.{EngineOpts}
use Rattle.zq_base.specs.declared.kind.Kind.TheVariants.{Push}
use Rattle.zq_outer.specs.declared.link.LinkPut.{LinkPut}
use Rattle.msg_pipe.specs.declared.pipes.Taken.{Taken}
use Rattle.msg_pipe.specs.declared.pipes.Taken.TheVariants as taken
use Rattle.spec_link.specs.declared.row.LinkEnd.{LinkEnd}
use Rattle.spec_link.specs.LinkAct.{LinkAct, taken_of}
use Rattle.spec_link.specs.Parts.{write_acts}
use Rattle.spec_link.specs.Rows.{count_of}
use Rattle.spec_link.specs.Turn.{WritesAt, ReadsAt}
use Rattle.spec_link.proofs.TopicLemmas.{Silent, silent_none}
use Rattle.spec_link.proofs.OneByOneLemmas.{one_by_one, silent_read, silent_look}
use Rattle.link_side.specs.declared.behind.Behind.{Behind}
use Rattle.link_side.specs.declared.behind.Behind.TheVariants.{Nothing, Unsaid}
use Rattle.link_side.specs.Says.{left_by}
use Rattle.link_side.specs.Works.{fetched_of}
use Rattle.link_side.specs.Kept.{Kept, Side, IsKeptOf, IsAtRest}
use Rattle.link_side.specs.Silent.{HasHeard, HasOutput, HasNone}
use Rattle.link_side.specs.declared.wire.Fetched.{Fetched}
use Rattle.zq_session.specs.declared.life.Life.{Life}
use Rattle.zq_session.specs.declared.tally.Tally.{Tally}
use Rattle.zq_session.specs.Lives.{Story, basis_of, standing_of}
use Rattle.std.specs.Prelude.{option_map, ◌⊎◌}
use Rattle.spec_link.specs.Rows.{ClosedLink}
use Rattle.zq_session.specs.Noting.{AreLooks, Next, Takes, Says, next_acts, takes_of, takes_in}
use Rattle.zq_session.specs.Tallies.{HasTally, TalliesNext, with_takes, with_end}
use Rattle.zq_session.specs.Counting.{TallyEnds}
use Rattle.zq_session.proofs.SumLemmas.{none_taken_next}
use Rattle.zq_session.proofs.UnputLemmas.{means_link_run}
use Rattle.zq_session.proofs.TallyLemmas.{tally_acts, tally_still, tally_over, counts_at, left_at}

-- no take was made
pub takes_none : (look : Option Fetched) (t : Tally) → look ≡ None → TalliesNext (with_takes (takes_of look)) t t
takes_none look t e = subst (λ (o : Option Fetched). TalliesNext (with_takes (takes_of o)) t t) (sym e) (none_taken_next t)

-- what a writing part takes is what was counted
pub takes_next : (put : Option LinkPut) (octets : List ℕ) (pipe : PipeId) (next : Next) → takes_in next ≡ length (taken_of (write_acts put octets ++ next_acts pipe next))
takes_next None octets pipe (Takes None) = refl
takes_next None octets pipe (Takes (Some (taken.Item m))) = refl
takes_next None octets pipe (Takes (Some taken.Empty)) = refl
takes_next None octets pipe (Takes (Some taken.Delimiter)) = refl
takes_next None octets pipe (Says None) = refl
takes_next None octets pipe (Says (Some m)) = refl
takes_next (Some a) octets pipe (Takes None) = refl
takes_next (Some a) octets pipe (Takes (Some (taken.Item m))) = refl
takes_next (Some a) octets pipe (Takes (Some taken.Empty)) = refl
takes_next (Some a) octets pipe (Takes (Some taken.Delimiter)) = refl
takes_next (Some a) octets pipe (Says None) = refl
takes_next (Some a) octets pipe (Says (Some m)) = refl

-- a message that isn't offered yet was taken
pub unsaid_takes : (found : Option Taken) (m : Frames) (b : Behind) → b ≡ left_by found → b ≡ Unsaid m → takes_of (option_map fetched_of found) ≡ 1
unsaid_takes None m b e d = (let c : Nothing ≡ Unsaid m = sym e ∙ d in absurd cc)
unsaid_takes (Some (taken.Item n)) m b e d = refl
unsaid_takes (Some taken.Empty) m b e d = (let c : Nothing ≡ Unsaid m = sym e ∙ d in absurd cc)
unsaid_takes (Some taken.Delimiter) m b e d = (let c : Nothing ≡ Unsaid m = sym e ∙ d in absurd cc)

module _ (l : Life) (p : Story) (acts more : List LinkAct) (t : Tally) where
  -- the writing part, of a side at rest
  pub tally_writes : (n : ℕ) (u : Tally) (k : Kept) → IsKeptOf p.opts acts k → IsAtRest k → WritesAt (basis_of l p) (standing_of l p) acts more → length (taken_of more) ≡ n → TalliesNext (with_takes n) t u
      → HasTally l.dials p.opts (Some acts) p.closed t → HasTally l.dials p.opts (Some (acts ++ more)) p.closed u
  tally_writes n u k r rest w e next h =
      let m = means_link_run p.opts acts k r rest in
      tally_acts l.dials p.opts p.closed t u acts more n e (one_by_one.writes (basis_of l p) (standing_of l p) acts more m.0 m.1.decodes h.1.one_by_one w) next h

  -- the reading part
  pub tally_reads : {X Y : Type 0} → (X × (more ≡ [])) ⊎ (Y × ReadsAt (basis_of l p) (standing_of l p) acts more) → HasTally l.dials p.opts (Some acts) p.closed t → HasTally l.dials p.opts (Some (acts ++ more)) p.closed t
  tally_reads (inl k) h = tally_still l.dials p.opts p.closed t t acts more (subst (λ (m : List LinkAct). Silent m) (sym k.1) silent_none) h
  tally_reads (inr k) h = tally_still l.dials p.opts p.closed t t acts more (silent_read (basis_of l p) (standing_of l p) acts more k.1) h

-- a look at the front of the pipe, with a link or without one
pub tally_looked : (dials : Bool) (opts : EngineOpts) (closed : List ClosedLink) (t : Tally) (link : Option (List LinkAct)) (act : LinkAct) → AreLooks (act ∷ []) → HasTally dials opts link closed t
    → HasTally dials opts (option_map (λ acts. acts ++ act ∷ []) link) closed t
tally_looked dials opts closed t None act one h = h
tally_looked dials opts closed t (Some acts) act one h =
    let k = one.0 in
    tally_still dials opts closed t t acts (act ∷ []) (subst (λ (x : LinkAct). Silent (x ∷ [])) (sym k.3) (silent_look k.0 k.1 k.2)) h

pub no_end : {X : Type 0} (o : Option Side) (x : Side) → o ≡ None → o ≡ Some x → X
no_end o x e d = absurd cc

pub the_end : (x y : Side) → Some x ≡ Some y → x ≡ y
the_end x y e = cc

-- the link is over
pub tally_ends : (l : Life) (k : Kept) (why : LinkEnd) (t u : Tally) (heard put : ℕ) (left : Bool) → IsAtRest k → HasHeard heard k → (l.kind ≡ Push → put ≡ 0) → ((l.kind ≡ Push → ⊥) → put ≡ k.through)
    → (left ≡ true → HasOutput k) → (left ≡ false → HasNone k) → ((h p : ℕ) → heard ≡ count_of h → put ≡ count_of p → TalliesNext (with_end h p left why) t u) → TallyEnds l k why t u
tally_ends l k why t u heard put left rest hears drops puts some none next = λ dials opts acts closed e r h.
    let c = counts_at opts l.kind acts k heard put e r rest hears drops puts in
    tally_over dials opts closed t u acts heard put left why c (left_at opts acts k left r some none) (next _ _ c.heard_is c.put_is) h
