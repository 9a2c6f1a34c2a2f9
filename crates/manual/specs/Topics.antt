-- What topics say of a name.
use Rattle.std.specs.Prelude.{◌≡◌, ◌≢◌, ℕ, ◌<◌, All, List, length, get_or, map, Option, IfSome, IfNone}
use Rattle.manual.specs.declared.topic.Topic.{Topic}
use Rattle.manual.specs.Words.{all_words}

-- a topic stands in a list under a name, and says this
pub record IsTextOf (topics : List Topic) (name text : List ℕ) : Type 0 where
  pub place : ℕ
  pub topic : Topic
  pub in_list : place < length topics
  pub here : topic ≡ get_or topics place topic
  pub named : topic.name.now ≡ name
  pub text_is : text ≡ topic.text.now

-- what a list of topics says of a name: the text of the topic of that name, if there is one
pub record Say (topics : List Topic) (name : List ℕ) (text : Option (List ℕ)) : Type 0 where
  pub some : IfSome text (IsTextOf topics name)
  pub none : IfNone text (All (λ topic. topic.name.now ≢ name) topics)

-- the words that the topics explain, in their order
abbrev pub topic_words : List Topic → List (List ℕ)
topic_words topics = map (λ topic. topic.name.now) topics

-- what the manual says of a name, by topics that explain just its words
abbrev pub IsSaid : List ℕ → Option (List ℕ) → Type 0
IsSaid name text = (topics : List Topic) × (topic_words topics ≡ all_words) × Say topics name text
