-- The four slots of a class cache, and what each holds after any pushes (ClassCache).
mod CacheSlots
pub mod ClassCache
