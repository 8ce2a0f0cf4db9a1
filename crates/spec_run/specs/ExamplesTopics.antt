-- Worked examples of topics (RFC 29, "The XPUB Socket Type", "The SUB Socket Type"): what a SUB tells is heard by an XPUB before its next call.
use Rattle.std.specs.Prelude.{ℕ, List, [], ◌∷◌, true, false, codes}
use Rattle.zq_base.specs.Message.{Frames}
use Rattle.spec_pattern.specs.PipeStep.{Commit, FullLook, Take, EmptyLook}
use Rattle.spec_pattern.specs.Publishing.{Notice}
use Rattle.spec_pattern.specs.Subscribing.{Done, NotSub}
use Rattle.spec_pattern.specs.Pattern.{Pattern, XPub, Sub}
use Rattle.spec_pattern.specs.PatternCalls.{PatternSends, PatternReceives, PatternPumps, PatternChanges, Subscribe, Unsubscribe, Changed}
use Rattle.spec_pattern.specs.declared.answers.Rule.TheVariants.{NoMatch}
use Rattle.spec_pattern.specs.declared.answers.RecvRefusal.TheVariants as recv
use Rattle.spec_pattern.specs.declared.answers.SendAnswer.TheVariants as sent
use Rattle.spec_pattern.specs.declared.answers.RecvAnswer.TheVariants as got
use Rattle.spec_run.specs.TextParts.{pair_nr, end_a, end_b, open_to_all}

-- the messages that subscribe to a topic, and cancel it
abbrev pub adds : List ℕ → Frames
adds topic = (1 ∷ topic) ∷ []

abbrev pub cancels : List ℕ → Frames
cancels topic = (0 ∷ topic) ∷ []

-- an XPUB whose one peer has these topics, with what waits for its user
abbrev pub xpub : List (List ℕ) → List Notice → Pattern
xpub topics inbox = XPub (record { ins = end_b 1 ∷ []; subs = (end_b 1, topics) ∷ []; inbox = inbox; verbose = false; tells = true })

-- a SUB that wants these topics, each with its count, and told these to its one peer
abbrev pub sub : List (List ℕ × ℕ) → List (List ℕ) → Pattern
sub wanted told = Sub (record { ins = end_a 1 ∷ []; wanted = wanted; followers = (end_a 1, told) ∷ [] })

-- a is wanted once
abbrev pub wants_a : List (List ℕ × ℕ)
wants_a = (codes "a", 1) ∷ []

-- what waits for the XPUB's user once it heard that a is wanted, and that it isn't
abbrev pub heard_add : List Notice
heard_add = record { pair = pair_nr 1; message = adds (codes "a") } ∷ []

abbrev pub heard_cancel : List Notice
heard_cancel = record { pair = pair_nr 1; message = cancels (codes "a") } ∷ []

-- A topic is told and heard, and its message goes out and comes in; its cancel is heard before the next message, which matches nothing, and waits for the XPUB's user. A SUB tells before its next call what it couldn't tell before, and where there is still no room a look finds its pipe full.
pub record TopicRules : Type 0 where
  pub not_wanted : PatternChanges Unsubscribe open_to_all (codes "b") (sub [] []) [] (Changed NotSub) (sub [] [])
  pub subscribes : PatternChanges Subscribe open_to_all (codes "a") (sub [] []) (Commit (end_a 1) (adds (codes "a")) ∷ []) (Changed Done) (sub wants_a (codes "a" ∷ []))
  pub hears_add : PatternPumps open_to_all (xpub [] []) (Take (end_a 1) (adds (codes "a")) ∷ EmptyLook (end_a 1) ∷ []) (xpub (codes "a" ∷ []) heard_add)
  pub gives_add : PatternReceives (xpub (codes "a" ∷ []) heard_add) [] [] (got.Got (pair_nr 1) (adds (codes "a"))) (xpub (codes "a" ∷ []) [])
  pub hears_none : PatternPumps open_to_all (xpub (codes "a" ∷ []) []) (EmptyLook (end_a 1) ∷ []) (xpub (codes "a" ∷ []) [])
  pub sends_match : PatternSends open_to_all (codes "ab" ∷ []) (xpub (codes "a" ∷ []) []) (Commit (end_b 1) (codes "ab" ∷ []) ∷ []) (sent.Many (record { put = pair_nr 1 ∷ []; full = [] })) (xpub (codes "a" ∷ []) [])
  pub tells_none : PatternPumps open_to_all (sub wants_a (codes "a" ∷ [])) [] (sub wants_a (codes "a" ∷ []))
  pub gets_match : PatternReceives (sub wants_a (codes "a" ∷ [])) (Take (end_b 1) (codes "ab" ∷ []) ∷ []) [] (got.Got (pair_nr 1) (codes "ab" ∷ [])) (sub wants_a (codes "a" ∷ []))
  pub unsubscribes : PatternChanges Unsubscribe open_to_all (codes "a") (sub wants_a (codes "a" ∷ [])) (Commit (end_a 1) (cancels (codes "a")) ∷ []) (Changed Done) (sub [] [])
  pub hears_cancel : PatternPumps open_to_all (xpub (codes "a" ∷ []) []) (Take (end_a 1) (cancels (codes "a")) ∷ EmptyLook (end_a 1) ∷ []) (xpub [] heard_cancel)
  pub matches_none : PatternSends open_to_all (codes "ab" ∷ []) (xpub [] heard_cancel) [] (sent.Dropped NoMatch) (xpub [] heard_cancel)
  pub tells_late : PatternPumps open_to_all (sub wants_a []) (Commit (end_a 1) (adds (codes "a")) ∷ []) (sub wants_a (codes "a" ∷ []))
  pub finds_full : PatternPumps open_to_all (sub wants_a []) (FullLook (end_a 1) ∷ []) (sub wants_a [])
  pub finds_none : PatternReceives (sub wants_a []) (EmptyLook (end_b 1) ∷ []) [] (got.Refused recv.Again) (sub wants_a [])
