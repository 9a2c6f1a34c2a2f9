-- Words that name no service, no user, and no list.
use Rattle.std.proofs.Common.{◌≡◌, ◌∙◌, ◌==◌, true, false, ℕ, List, [], ◌∷◌, None, Some, ap, sym, codes, length, map, get_or, subst}
use Rattle.command_line.proofs.Names.{ServeWords, Service, Serve, Start, GiveServe, GiveStart, NameService}
use Rattle.command_line.specs.ListCommands.{IsNoList, NameNoUser, words_of_user}
use Rattle.start_words.specs.declared.words.StartWords.{StartWords}

-- the fourth of four items, as it is read
pub fourth_read : {X Y : Type 0} (f : X → Y) (xs : List X) (d : X) (p q r s : Y) → map f xs ≡ p ∷ q ∷ r ∷ s ∷ [] → d ≡ get_or xs 3 d → f d ≡ s
fourth_read f (a ∷ b ∷ c ∷ e ∷ xs) d p q r s read is_fourth = cc
fourth_read f _ d p q r s read is_fourth = cc

-- the two services have two names
two_names : codes "serve" ≡ codes "start" → ⊥
two_names same = let both : true ≡ false = ap (λ (name : List ℕ). get_or name 1 0 == 101) same in cc

-- `serve`, where the words behind it give nothing
pub no_serve : (words rest : List (List ℕ)) (name : List ℕ) → words ≡ name ∷ rest → name ≡ codes "serve" → ((given : ServeWords) → GiveServe rest given → ⊥)
    → (service : Service) → NameService words service → ⊥
no_serve words rest name split is_serve none (Serve given) named = none given (subst (λ w. NameService w (Serve given)) split named).1
no_serve words rest name split is_serve none (Start given) named = absurd (two_names (sym is_serve ∙ (subst (λ w. NameService w (Start given)) split named).0))

-- `start`, where the words behind it give nothing
pub no_start : (words rest : List (List ℕ)) (name : List ℕ) → words ≡ name ∷ rest → name ≡ codes "start" → ((given : StartWords) → GiveStart rest given → ⊥)
    → (service : Service) → NameService words service → ⊥
no_start words rest name split is_start none (Start given) named = none given (subst (λ w. NameService w (Start given)) split named).1
no_start words rest name split is_start none (Serve given) named = absurd (two_names (sym (subst (λ w. NameService w (Serve given)) split named).0 ∙ is_start))

-- words that name no user of etcd
pub no_user : (words : List (List ℕ)) → (words ≡ [] → ⊥) → ((word : List ℕ) (behind : List (List ℕ)) → words ≡ codes "--etcd-user" ∷ word ∷ behind → ⊥) → NameNoUser words
no_user words some none None named = some named
no_user words some none (Some user) named = none user.name.now (codes "--etcd-password-file" ∷ user.password_file.now ∷ []) named

pub no_password : (words rest : List (List ℕ)) (name : List ℕ) → words ≡ codes "--etcd-user" ∷ name ∷ rest →
    ((word : List ℕ) (behind : List (List ℕ)) → rest ≡ codes "--etcd-password-file" ∷ word ∷ behind → ⊥) → NameNoUser words
no_password words rest name split none None named = cc
no_password words rest name split none (Some user) named = none user.password_file.now [] (cc)

-- what is not empty stands for something
pub not_empty : {X Y : Type 0} (f : X → Y) (xs : List X) → (length xs == 0) ≡ false → map f xs ≡ [] → ⊥
not_empty f [] is empty = cc
not_empty f (x ∷ xs) is empty = cc

-- words that name no list
pub no_prefix : (words rest : List (List ℕ)) (members : List ℕ) → words ≡ codes "--etcd" ∷ members ∷ rest →
    ((word : List ℕ) (behind : List (List ℕ)) → rest ≡ codes "--prefix" ∷ word ∷ behind → ⊥) → IsNoList words
no_prefix words rest members split none list named =
    let is : words ≡ codes "--etcd" ∷ list.members.now ∷ codes "--prefix" ∷ list.prefix.now ∷ words_of_user list.user = named in
    none list.prefix.now (words_of_user list.user) (cc)
