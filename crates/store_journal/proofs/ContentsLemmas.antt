-- Contents in a map, after more mutations and in other words.
use Rattle.std.proofs.Common.{List, ◌++◌, sym, subst}
use Rattle.std.proofs.lemmas.List.{map-append}
use Rattle.cache_key.specs.declared.request.Mutation.{Mutation}
use Rattle.cache_model.specs.Change.{Change, change_of, changes_of}
use Rattle.partition_map.specs.After.{Maps, AgreesWith}
use Rattle.store_journal.specs.ContentsOf.{HasContentsOf}

-- what is so of the mutations is said otherwise
pub contents_as : (P Q : List Mutation → Type 0) (maps : Maps) → ((mutations : List Mutation) → P mutations → Q mutations) → HasContentsOf P maps → HasContentsOf Q maps
contents_as P Q maps goes held = record { mutations = held.mutations; so = goes held.mutations held.so; agrees = held.agrees }

-- more mutations were made
pub agrees_more : (mutations more : List Mutation) (maps : Maps) → AgreesWith (changes_of mutations ++ changes_of more) maps → AgreesWith (changes_of (mutations ++ more)) maps
agrees_more mutations more maps is = subst (λ (cs : List Change). AgreesWith cs maps) (sym (map-append change_of mutations more)) is
