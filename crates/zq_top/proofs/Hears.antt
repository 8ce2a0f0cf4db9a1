-- What is said of a peer's octets is what they mean.
use Rattle.std.proofs.Common.{◌≡◌, ℕ, List, Bool, true, false, Option, Some, None, refl, sym, ap, subst, ◌∙◌, ◌⊎◌, inl, inr}
use Rattle.zq_base.specs.declared.options.EngineOpts.{EngineOpts}
use Rattle.zq_outer.specs.Count.{Rose}
use Rattle.zq_base.specs.declared.kind.Kind.{Kind}
use Rattle.zq_base.specs.declared.options.Login.{Login}
use Rattle.spec_zmtp.specs.DecodedStream.{Decoded, Decodes}
use Rattle.spec_zmtp.proofs.StreamLemmas.{one_meaning}
use Rattle.zq_call.specs.HearText.{hear_opts, is_refused}
use Rattle.zq_call.specs.declared.request.Request.{Request}
use Rattle.zq_call.specs.declared.request.Request.TheVariants as request
use Rattle.zq_call.specs.Call.{AsksHear, InputAt, SaysHeard, heard_status}
use Rattle.zq_call.specs.declared.status.Status.{Status}
use Rattle.zq_call.specs.declared.status.Status.TheVariants as status
use Rattle.zq_top.specs.Headline.{SaysText}

not_some : {A : Type 0} (a : A) → ◌≡◌ {A = Option A} None (Some a) → ⊥
not_some a same = cc

not_run : (a b : ℕ) (kind : Kind) (login : Option Login) → ◌≡◌ {A = Option Request} (Some (request.Run a b)) (Some (request.Hear kind login)) → ⊥
not_run a b kind login same = cc

hear_same : (a b : Kind) (l m : Option Login) → ◌≡◌ {A = Option Request} (Some (request.Hear a l)) (Some (request.Hear b m)) → hear_opts a l ≡ hear_opts b m
hear_same a b l m same = cc

module _ (words : List (List ℕ)) (before after : InputAt) (text octets : List ℕ) (kind : Kind) (login : Option Login) (asks : AsksHear words kind login)
    (left : before.source.left ≡ Some octets) (sound : Rose before.source.faults after.source.faults → ⊥) (d : Decoded) (means : Decodes (hear_opts kind login) octets d) where
  -- octets that were heard have the one meaning that all octets of the source have
  one_outcome : (refused : Bool) → SaysHeard refused words before after text → refused ≡ is_refused d.outcome
  one_outcome refused (k, l, other, (read, (rose, all), heard), still) =
      let whole = rw left at all in
      let same : read ≡ octets = sym whole.0 in
      let opts : hear_opts k l ≡ hear_opts kind login = hear_same k kind l login (sym other ∙ asks) in
      let on : Decodes (hear_opts kind login) octets heard.decoded = subst (λ (o : EngineOpts). Decodes o octets heard.decoded) opts
      (subst (λ (x : List ℕ). Decodes (hear_opts k l) x heard.decoded) same heard.decodes) in
      let one : heard.decoded ≡ d = one_meaning (hear_opts kind login) octets heard.decoded d on means in
      heard.refused_is ∙ ap (λ (e : Decoded). is_refused e.outcome) one

  pub hears : (s : Status) → SaysText s words before after text → (s ≡ heard_status (is_refused d.outcome)) ⊎ (s ≡ status.OutOfMemory)
  hears status.Done (inl (schedule, asked_run, read)) = absurd (not_run schedule.seed schedule.turns kind login (sym asked_run ∙ asks))
  hears status.Done (inr heard) = inl (ap heard_status (one_outcome false heard))
  hears status.Script (schedule, asked_run, read) = absurd (not_run schedule.seed schedule.turns kind login (sym asked_run ∙ asks))
  hears status.Usage says = absurd (not_some (request.Hear kind login) (sym says.0 ∙ asks))
  hears status.ReadFault says = absurd (sound says.1)
  hears status.WriteFault says = absurd says
  hears status.OutOfMemory says = inr refl
  hears status.Unfinished (schedule, asked_run, read) = absurd (not_run schedule.seed schedule.turns kind login (sym asked_run ∙ asks))
  hears status.Heard heard = inl (ap heard_status (one_outcome true heard))
