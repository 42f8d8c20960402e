-- What holds of each list of tags that is read.
use Rattle.std.specs.Prelude.{◌≡◌, ◌≢◌, ℕ, ◌+◌, ◌<◌, ◌≤◌, List, [], ◌∷◌, length, slice_get, All, AllPairs, Some}
use Rattle.rb_tags.specs.declared.tag.Attr.{Attr}
use Rattle.rb_tags.specs.declared.tag.Tag.{Tag}
use Rattle.rb_tags.specs.declared.tag.TheConstants.{MAX_DEPTH, MAX_TAGS}

-- no two attributes have one name
abbrev pub HasDistinctNames : List Attr → Type 0
HasDistinctNames attrs = AllPairs (λ a b. a.name ≢ b.name) attrs

pub record IsReadTag (tag : Tag) : Type 0 where
  pub inside : 0 < tag.depth
  pub shallow : tag.depth ≤ MAX_DEPTH
  pub distinct : HasDistinctNames tag.attrs

-- the first tag has depth 1, each other more, and each is at most one deeper than the tag before it
pub record AreNested (tags : List Tag) : Type 0 where
  pub first : (root : Tag) → slice_get tags 0 ≡ Some root → root.depth ≡ 1
  pub inside : (i : ℕ) (tag : Tag) → 0 < i → slice_get tags i ≡ Some tag → 1 < tag.depth
  pub steps : (i : ℕ) (tag next : Tag) → slice_get tags i ≡ Some tag → slice_get tags (i + 1) ≡ Some next → next.depth ≤ tag.depth + 1

pub record IsTagList (tags : List Tag) : Type 0 where
  pub some : tags ≢ []
  pub few : length tags ≤ MAX_TAGS
  pub each : All IsReadTag tags
  pub nested : AreNested tags

-- the depth of the last tag, or this where there is none
abbrev pub last_depth : ℕ → List Tag → ℕ
last_depth none [] = none
last_depth none (tag ∷ tags) = last_depth tag.depth tags

-- tags that are nested, and after which so many elements are open
pub record IsReading (open_count : ℕ) (tags : List Tag) : Type 0 where
  pub nested : AreNested tags
  pub within : open_count ≤ last_depth 0 tags
